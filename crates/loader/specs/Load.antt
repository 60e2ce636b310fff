-- What a load answers.
use Rattle.std.specs.Prelude.{◌≡◌, ℕ, ◌<◌, ◌≤◌, Bool, true, ◌&&◌, ◌⊎◌, List, length, Some, Ok, Err, vec_items, Option, nat_le}
use Rattle.std.specs.Option.{option_map}
use Rattle.sets.specs.Masks.{First}
use Rattle.refusal.specs.declared.Refusal.{Refusal}
use Rattle.refusal.specs.declared.Refusal.TheVariants.{Unset}
use Rattle.source.specs.Reading.{Source, read_source}
use Rattle.source.specs.Tables.{nodes_in, source_in}
use Rattle.loader.specs.Live.{Liveness, live_sets, pressure}
use Rattle.loader.specs.declared.held.LoadedSource.{LoadedSource}
use Rattle.loader.specs.declared.holder.Loader.{Loader}

-- the source that is held, if any
abbrev pub loaded_source : Loader → Option Source
loaded_source l = option_map (λ h. source_in h l.tables.nodes) l.loaded

-- the masks of the nodes, a word for each
abbrev pub live_words : Loader → List ℕ
live_words l = vec_items l.tables.live

-- s shows what the loader l has loaded
pub record Shows (l : Loader) (s : LoadedSource) : Type 0 where
  pub heading : l.loaded ≡ Some s.heading
  pub nodes : s.nodes.now ≡ nodes_in l.tables.nodes
  pub words : s.live.now ≡ live_words l
  pub live : Liveness s.nodes.now (live_sets s.live.now)
  pub entry : (v : ℕ) → live_sets s.live.now 0 v ≡ true → v < s.heading.parameters
  pub long : length s.nodes.now ≡ s.heading.nodes
  pub few_nodes : s.heading.nodes ≤ 256
  pub few_parameters : s.heading.parameters ≤ 8

-- a load is granted: the text reads as the source s, every temporary live into its first node is a parameter,
-- and it answers the temporaries, the nodes and the greatest number of temporaries live into one node
-- (the words hold what is live)
pub record Granted (bs : List ℕ) (s : Source) (words : List ℕ) (counts : ℕ × ℕ × ℕ) : Type 0 where
  pub read : read_source bs ≡ Ok s
  pub live : Liveness s.nodes (live_sets words)
  pub entry : (v : ℕ) → live_sets words 0 v ≡ true → v < s.parameters
  pub is : counts ≡ (s.temporaries, length s.nodes, pressure s.temporaries (live_sets words) (length s.nodes))

-- a text that reads as the source s, in which t is the lowest temporary live into the first node that is no parameter
pub record ReadsUnset (bs : List ℕ) (s : Source) (t : ℕ) : Type 0 where
  pub read : read_source bs ≡ Ok s
  pub live : ℕ → ℕ → Bool
  pub least : Liveness s.nodes live
  pub first : First (λ v. nat_le s.parameters v && live 0 v) t

-- a load is refused: the text is not read, or its source reads a temporary before it is set
abbrev pub Refused : List ℕ → Refusal → Type 0
Refused bs e = (read_source bs ≡ Err e) ⊎ ((s : Source) × (t : ℕ) × (e ≡ Unset t) × ReadsUnset bs s t)

-- a text has one answer: it is granted with one source and one triple of counts, or refused by one question
pub record OneAnswer (bs : List ℕ) : Type 0 where
  pub granted : (s t : Source) (v w : List ℕ) (c d : ℕ × ℕ × ℕ) → Granted bs s v c → Granted bs t w d → (s ≡ t) × (c ≡ d)
  pub refused : (e f : Refusal) → Refused bs e → Refused bs f → e ≡ f
  pub never_both : (s : Source) (w : List ℕ) (c : ℕ × ℕ × ℕ) (e : Refusal) → Granted bs s w c → Refused bs e → ⊥
