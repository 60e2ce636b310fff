-- What the check says of published lines is what the placement answers.
use Rattle.std.proofs.Common.{◌≡◌, ℕ, ◌*◌, ◌<◌, ◌≤◌, Bool, List, length, IfOk, Some, Ok, Err, Option, Result, sym, ap, ◌∙◌, subst, inl, inr, arith, MatchResult}
use Rattle.std.specs.Option.{option_map}
use Rattle.std.proofs.lemmas.Bool.{cases_lt}
use Rattle.refusal.specs.declared.Refusal.{Refusal}
use Rattle.refusal.specs.declared.Refusal.TheVariants.{ShortMemory}
use Rattle.source.specs.declared.node.Node.{Node}
use Rattle.source.specs.declared.table.Table.{Table}
use Rattle.source.specs.Reading.{Source}
use Rattle.source.specs.Tables.{nodes_in, source_in}
use Rattle.loader.specs.Live.{live_sets}
use Rattle.loader.specs.Load.{loaded_source, live_words, Shows}
use Rattle.loader.specs.declared.held.LoadedSource.{LoadedSource}
use Rattle.loader.specs.declared.holder.Loader.{Loader}
use Rattle.allocation.specs.Allocations.{Allocation}
use Rattle.allocation.specs.Lines.{move_count}
use Rattle.allocation.specs.WellFormed.{FewMoves}
use Rattle.equations.specs.Equations.{memory_sets}
use Rattle.equations.specs.Verdict.{Accepted, Refused, Ready, Left, Fits}
use Rattle.verdict.proofs.Unique.{one_verdict_lem}
use Rattle.places.specs.declared.place.Place.{Place}
use Rattle.places.specs.Places.{Lawful, source_of, live_of, locations, IsPlace}
use Rattle.places.specs.Publish.{published_allocation}
use Rattle.places.specs.Laws.{Loadable}
use Rattle.places.proofs.Accept.{consistent_places_pass_lem}
use Rattle.places.proofs.Count.{published_lines_few}
use Rattle.placement.specs.Placements.{Enough, published, Placed}
use Rattle.placement.proofs.Matching.{all_match, fits}

-- what a check says of the allocation a, with the words of work memory before and after
pub record Verdict (s : Source) (a : Allocation) (words words' : List ℕ) (r : Result ℕ Refusal) : Type 0 where
  pub verdict : MatchResult r (λ _. Accepted s a (length words) (memory_sets words')) (Refused s a (length words) (memory_sets words'))
  pub count : IfOk r (λ n. n ≡ move_count a)
  pub memory : Left s a words words'

-- a refusal where there is too little work memory
short : (s : Source) (a : Allocation) (size : ℕ) (X : ℕ → ℕ × ℕ → Bool) (e : Refusal) → size < 64 * length s.nodes → Refused s a size X e → e ≡ ShortMemory
short s a size X e h (inl r) = r.is
short s a size X e h (inr (inl r)) = absurd (omega (arith, r.room))
short s a size X e h (inr (inr (inl r))) = absurd (omega (arith, r.ready.room))
short s a size X e h (inr (inr (inr r))) = absurd (omega (arith, r.ready.room))

module _ (places : Source → (ℕ → ℕ → Bool) → ℕ → List Place) (lawful : Lawful places) (s : Source) (live : List ℕ) (R : ℕ) (ok : Loadable s (live_sets live)) (enough : Enough R) (long : length live ≡ length s.nodes) (parameters : s.parameters ≤ 8) (words words' : List ℕ) (b : Allocation) where
  abbrev a : Allocation
  a = published places s live R

  -- with enough work memory a refusal is out of the question
  never : (e : Refusal) → 64 * length s.nodes ≤ length words → Left s a words words' → Refused s a (length words) (memory_sets words') e → ⊥
  never e room left refused =
      let L = live_sets live in
      let ps = places s L R in
      let owed = lawful s L R enough.low enough.high ok.sound ok.live ok.entry in
      let ready : Ready s a (length words) = record { room = room; matches = all_match s L R ps } in
      let accepted = consistent_places_pass_lem s L R ps ok enough.low enough.high owed.consistent (length words) room (memory_sets words') (left.solved ready) in
      (one_verdict_lem s a (length words) (fits s L R ps ok) (memory_sets words') (memory_sets words') e refused).0 accepted

  refused : (e : Refusal) → Left s a words words' → Refused s a (length words) (memory_sets words') e → Placed places (Some s) live R words b words' (Err e)
  refused e left r = elim (cases_lt (length words) (64 * length s.nodes)) [
    | inl h ↦ inr (record { registers = enough; room = h; is = short s a (length words) (memory_sets words') e h r; kept = left.kept (λ y. beyond h y.room) })
    | inr h ↦ absurd (never e h left r)
  ]
    where
      beyond : length words < 64 * length s.nodes → 64 * length s.nodes ≤ length words → ⊥
      beyond x y = omega arith

  pub answered : (r : Result ℕ Refusal) → b ≡ a → Verdict s b words words' r → Placed places (Some s) live R words b words' r
  answered (Ok n) is v = record {
    registers = enough;
    room = v.verdict.ready.room;
    least = ok.live;
    long = long;
    published = is;
    fits = subst (λ (x : Allocation). Fits s x) (sym is) (fits s (live_sets live) R (places s (live_sets live) R) ok);
    accepted = v.verdict;
    left = v.memory;
    few = subst (λ (x : Allocation). FewMoves (length s.nodes) x) (sym is) (published_lines_few s (live_sets live) R (places s (live_sets live) R) parameters).0;
    moves = v.count;
  }
  answered (Err e) is v =
      let w = subst (λ (x : Allocation). Verdict s x words words' (Err e)) is v in
      refused e w.memory w.verdict

-- what the loader shows can be placed
pub loadable : (l : Loader) (o : LoadedSource) → Shows l o → Loadable (source_of o) (live_of o)
loadable l o is = record { sound = o.sound; some = o.some; few = o.few; within = o.within; live = is.live; entry = is.entry }

-- the source of its table is the one that it shows
pub table_source : (l : Loader) (o : LoadedSource) (t : Table) → Shows l o → t ≡ l.tables.nodes → source_in o.heading t ≡ source_of o
table_source l o t is e = ap (λ (ns : List Node). record { parameters = o.heading.parameters; temporaries = o.heading.temporaries; nodes = ns }) (ap nodes_in e ∙ sym is.nodes)

-- the places ps of what it shows, and the allocation b published for them
module _ (places : Source → (ℕ → ℕ → Bool) → ℕ → List Place) (lawful : Lawful places) (l : Loader) (o : LoadedSource) (is : Shows l o) (R : ℕ) (enough : Enough R) (ps : List Place) (placed : ps ≡ places (source_of o) (live_of o) R) where
  abbrev s : Source
  s = source_of o

  abbrev L : ℕ → ℕ → Bool
  L = live_of o

  -- each is a register or home
  pub placed_all : (v : ℕ) → IsPlace R v (locations R ps v)
  placed_all =
      let ok = loadable l o is in
      subst (λ (qs : List Place). (v : ℕ) → IsPlace R v (locations R qs v)) (sym placed) (lawful s L R enough.low enough.high ok.sound ok.live ok.entry).consistent.placed

  -- the answer, for the source that is loaded
  pub answered_loaded : (b : Allocation) → b ≡ published_allocation s L R ps → (words words' : List ℕ) (r : Result ℕ Refusal) → Verdict s b words words' r → Placed places (loaded_source l) (live_words l) R words b words' r
  answered_loaded b made words words' r v =
      let same : option_map (λ h. source_in h l.tables.nodes) l.loaded ≡ Some s = ap (option_map (λ h. source_in h l.tables.nodes)) is.heading ∙ ap (λ (ns : List Node). Some (record { parameters = o.heading.parameters; temporaries = o.heading.temporaries; nodes = ns })) (sym is.nodes) in
      subst (λ (x : Option Source). Placed places x (live_words l) R words b words' r) (sym same)
      (subst (λ (ws : List ℕ). Placed places (Some s) ws R words b words' r) is.words
      (answered places lawful s o.live.now R (loadable l o is) enough o.words is.few_parameters words words' b r (made ∙ ap (published_allocation s L R) placed) v))
