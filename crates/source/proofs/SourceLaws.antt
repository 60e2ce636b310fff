-- Reading and writing a whole source undo each other.
use Rattle.std.proofs.Common.{◌≡◌, ℕ, suc, ◌+◌, ◌*◌, ◌^◌, ◌<◌, ◌≤◌, min, Bool, true, false, cond, eqb, List, [], ◌∷◌, map, length, Some, None, Ok, Err, codes, decimal, Option, Result, sym, refl, ap, ◌∙◌, subst, arith}
use Rattle.std.proofs.lemmas.List.{length-map, length-append}
use Rattle.std.proofs.lemmas.Bool.{cond-true, eq-eqb, eqb-true}
use Rattle.std.proofs.lemmas.Fmt.{length-decimal-le}
use Rattle.std.specs.List.{AllByRecursion}
use Rattle.std.specs.Option.{option_map}
use Rattle.text.specs.Parts.{lines_of, fields_of, sized, ended, written}
use Rattle.text.specs.Fields.{Shape, shape_of, shapes_of, number_between, after_title, by_first, and_then}
use Rattle.text.specs.declared.fields.Fault.{Fault}
use Rattle.text.proofs.TextLaws.{Lacks, AllLack, Plain, AllPlain, cut_written, written_cut, sized-written}
use Rattle.text.proofs.FieldLaws.{between_inverse, after_title_is, mapped_some, decimal_lacks}
use Rattle.text.proofs.Saying.{and_then-some}
use Rattle.refusal.specs.declared.Refusal.{Refusal}
use Rattle.refusal.specs.declared.Refusal.TheVariants.{SourceSize, SourceLength}
use Rattle.source.specs.declared.heading.Heading.{Heading}
use Rattle.source.specs.declared.node.Node.{Node}
use Rattle.source.specs.declared.node.Node.TheVariants.{Const, Mov, Binary, Call, Branch, Return}
use Rattle.source.specs.declared.words.Opcode.{Opcode}
use Rattle.source.specs.declared.words.Opcode.TheVariants as opcode
use Rattle.source.specs.Nodes.{Sound}
use Rattle.source.specs.Words.{opcode_name, opcodes}
use Rattle.source.specs.Reading.{Source, heading_from, heading_of, arity, operands_of, node_of, then_read, with_first, read_nodes, sourced, counted, headed, read_source}
use Rattle.source.specs.Writing.{heading_fields, node_fields, source_text, IsTextOf, ReadIsWritten, WrittenIsRead}
use Rattle.source.proofs.Wording.{opcode_inverse, opcode_short, condition_inverse, condition_short}
use Rattle.source.proofs.NodeLaws.{Few, Says, node_written, node_read}

-- the numbers of a heading are in range
pub record HeadingIn (h : Heading) : Type 0 where
  pub parameters_few : h.parameters ≤ 8
  pub parameters_within : h.parameters ≤ h.temporaries
  pub temporaries_some : 1 ≤ h.temporaries
  pub temporaries_few : h.temporaries ≤ 48
  pub nodes_some : 1 ≤ h.nodes
  pub nodes_few : h.nodes ≤ 256

pub few : (h : Heading) → HeadingIn h → Few h
few h w = record { temporaries = w.temporaries_few; nodes = w.nodes_few }

-- the fields of a heading
abbrev head_fields : Heading → List (List ℕ)
head_fields h = codes "source" ∷ decimal h.parameters ∷ decimal h.temporaries ∷ decimal h.nodes ∷ []

-- a heading, read

module _ (h : Heading) where
  fields_are : (fs : List (List ℕ)) → heading_of (map shape_of fs) ≡ Some h → (fs ≡ head_fields h) × HeadingIn h
  unfolding heading_of
  fields_are fs e =
      let t = and_then-some (after_title (codes "source") (map shape_of fs)) _ h e in
      let (b, c, d, is, r) = after_title_is (codes "source") fs t.0 t.1 in
      let k : heading_from (shape_of b) (shape_of c) (shape_of d) ≡ Some h = ap (λ (r : Shape × Shape × Shape). heading_from r.0 r.1 r.2) (sym r) ∙ t.2 in
      let x = and_then-some (number_between 1 48 (shape_of c)) _ h k in
      let y = and_then-some (number_between 0 (min x.0 8) (shape_of b)) _ h x.2 in
      let z = mapped_some _ (number_between 1 256 (shape_of d)) h y.2 in
      let x' = (between_inverse 1 48 (omega arith)).is c x.0 x.1 in
      let y' = (between_inverse 0 (min x.0 8) (omega arith)).is b y.0 y.1 in
      let z' = (between_inverse 1 256 (omega arith)).is d z.0 z.1 in
      subst (λ g. (fs ≡ head_fields g) × HeadingIn g) z.2 (
        is ∙ (λ i. codes "source" ∷ y'.0 i ∷ x'.0 i ∷ z'.0 i ∷ []),
        record { parameters_few = omega (arith, y'.1.1); parameters_within = omega (arith, y'.1.1); temporaries_some = x'.1.0; temporaries_few = x'.1.1; nodes_some = z'.1.0; nodes_few = z'.1.1 },
      )

  pub heading_is : (line : List ℕ) → Some h ≡ heading_of (shapes_of line) → (fields_of line ≡ head_fields h) × HeadingIn h
  heading_is line e = fields_are (fields_of line) (sym e)

  heading_ok : HeadingIn h → heading_of (map shape_of (head_fields h)) ≡ Some h
  unfolding heading_of
  heading_ok w =
      (λ i. and_then ((between_inverse 1 48 (omega arith)).reads h.temporaries (w.temporaries_some, w.temporaries_few) i) (λ t. and_then (number_between 0 (min t 8) (shape_of (decimal h.parameters))) (λ k.
      option_map (λ m. record { parameters = k; temporaries = t; nodes = m }) (number_between 1 256 (shape_of (decimal h.nodes))))))
      ∙ (λ i. and_then ((between_inverse 0 (min h.temporaries 8) (omega arith)).reads h.parameters (omega arith, omega (arith, w.parameters_few, w.parameters_within)) i) (λ k.
      option_map (λ m. record { parameters = k; temporaries = h.temporaries; nodes = m }) ((between_inverse 1 256 (omega arith)).reads h.nodes (w.nodes_some, w.nodes_few) i)))

-- lines of nodes, read

module _ (h : Heading) (w : Few h) where
  -- the lines are those of the nodes, whose numbers are in range
  pub record Nodes (ls : List (List ℕ)) (ns : List Node) : Type 0 where
    pub fields : map fields_of ls ≡ map node_fields ns
    pub sound : AllByRecursion (Sound h.temporaries h.nodes) ns
    pub long : length ns ≡ length ls

  pub nodes_read : (k : ℕ) (ls : List (List ℕ)) (ns : List Node) → read_nodes h k ls ≡ Ok ns → Nodes ls ns
  unfolding read_nodes node_of
  nodes_read k [] ns e = let none : ◌≡◌ {A = List Node} [] ns = cc in subst (Nodes []) none (record { fields = refl; sound = tt; long = refl })
  nodes_read k (l ∷ ls) ns e = first (nodes_read (k + 1) ls) (node_of h l) refl e
    where
      rest : (n : Node) → Says h w (fields_of l) n → (r : Result (List Node) Refusal) → ((ms : List Node) → r ≡ Ok ms → Nodes ls ms) → with_first n r ≡ Ok ns → Nodes (l ∷ ls) ns
      rest n says (Err f) ih q = grind arith
      rest n says (Ok ms) ih q =
          let all = ih ms refl in
          let is : (n ∷ ms) ≡ ns = cc in
          subst (Nodes (l ∷ ls)) is (record { fields = λ i. says.0 i ∷ all.fields i; sound = (says.1, all.sound); long = ap suc all.long })

      first : ((ms : List Node) → read_nodes h (k + 1) ls ≡ Ok ms → Nodes ls ms) → (x : Result Node Fault) → node_of h l ≡ x → then_read k x (read_nodes h (k + 1) ls) ≡ Ok ns → Nodes (l ∷ ls) ns
      first ih (Err f) q e' = grind arith
      first ih (Ok n) q e' = rest n (node_read h w n (fields_of l) q) (read_nodes h (k + 1) ls) ih e'

  nodes_written : (k : ℕ) (ls : List (List ℕ)) (ns : List Node) → map fields_of ls ≡ map node_fields ns → AllByRecursion (Sound h.temporaries h.nodes) ns → read_nodes h k ls ≡ Ok ns
  unfolding read_nodes node_of
  nodes_written k [] [] e s = refl
  nodes_written k [] (n ∷ ns) e s = let z : ◌≡◌ {A = ℕ} 0 1 = cc in absurd (omega arith)
  nodes_written k (l ∷ ls) [] e s = let z : ◌≡◌ {A = ℕ} 0 1 = cc in absurd (omega arith)
  nodes_written k (l ∷ ls) (n ∷ ns) e s =
      let here : fields_of l ≡ node_fields n = cc in
      let more : map fields_of ls ≡ map node_fields ns = cc in
      (λ i. then_read k ((ap (λ fs. by_first opcode_name opcodes arity (operands_of h) (map shape_of fs)) here ∙ node_written h w n s.0) i) (nodes_written (k + 1) ls ns more s.1 i))

-- what `read_source` found

pub record Found (bs : List ℕ) (s : Source) : Type 0 where
  pub head : List ℕ
  pub tail : List (List ℕ)
  pub heading : Heading
  pub good : sized bs ≡ true
  pub cut : lines_of bs ≡ head ∷ tail
  pub headed : Some heading ≡ heading_of (shapes_of head)
  pub long : length tail ≡ heading.nodes
  pub nodes : read_nodes heading 2 tail ≡ Ok s.nodes
  pub parameters : s.parameters ≡ heading.parameters
  pub temporaries : s.temporaries ≡ heading.temporaries

found : (bs : List ℕ) (s : Source) → read_source bs ≡ Ok s → Found bs s
unfolding read_source
found bs s e = sized_is (sized bs) refl e
  where
    done : sized bs ≡ true → (l : List ℕ) (ls : List (List ℕ)) → lines_of bs ≡ l ∷ ls → (h : Heading) → heading_of (shapes_of l) ≡ Some h → length ls ≡ h.nodes → (r : Result (List Node) Refusal) → read_nodes h 2 ls ≡ r → sourced h r ≡ Ok s → Found bs s
    done g l ls cut h q n (Err f) r k = grind arith
    done g l ls cut h q n (Ok ns) r k =
        let is : record { parameters = h.parameters; temporaries = h.temporaries; nodes = ns } ≡ s = cc in
        record {
          head = l;
          tail = ls;
          heading = h;
          good = g;
          cut = cut;
          headed = sym q;
          long = n;
          nodes = r ∙ ap (λ (x : Source). Ok x.nodes) is;
          parameters = ap (λ (x : Source). x.parameters) (sym is);
          temporaries = ap (λ (x : Source). x.temporaries) (sym is);
        }

    long_is : sized bs ≡ true → (l : List ℕ) (ls : List (List ℕ)) → lines_of bs ≡ l ∷ ls → (h : Heading) → heading_of (shapes_of l) ≡ Some h → (t : Bool) → eqb (length ls) h.nodes ≡ t → cond t (sourced h (read_nodes h 2 ls)) (Err (SourceLength (min (length ls) h.nodes + 2))) ≡ Ok s → Found bs s
    long_is g l ls cut h q true t k = done g l ls cut h q (eqb-true _ _ t) (read_nodes h 2 ls) refl k
    long_is g l ls cut h q false t k = grind arith

    headed_is : sized bs ≡ true → (l : List ℕ) (ls : List (List ℕ)) → lines_of bs ≡ l ∷ ls → (o : Option Heading) → heading_of (shapes_of l) ≡ o → counted ls o ≡ Ok s → Found bs s
    headed_is g l ls cut None q k = grind arith
    headed_is g l ls cut (Some h) q k = long_is g l ls cut h q (eqb (length ls) h.nodes) refl k

    lined : sized bs ≡ true → (ls : List (List ℕ)) → lines_of bs ≡ ls → headed ls ≡ Ok s → Found bs s
    lined g [] q k = grind arith
    lined g (l ∷ ls) q k = headed_is g l ls q (heading_of (shapes_of l)) refl k

    sized_is : (t : Bool) → sized bs ≡ t → cond t (headed (lines_of bs)) (Err SourceSize) ≡ Ok s → Found bs s
    sized_is true t k = lined t (lines_of bs) refl k
    sized_is false t k = grind arith

pub read_is_written : ReadIsWritten
unfolding source_text
read_is_written bs s e =
    let f = found bs s e in
    let h = f.heading in
    let a = heading_is h f.head f.headed in
    let b = nodes_read h (few h a.1) 2 f.tail s.nodes f.nodes in
    let n : length s.nodes ≡ h.nodes = b.long ∙ f.long in (
      record {
        parameters_few = omega (arith, a.1.parameters_few, f.parameters);
        parameters_within = omega (arith, a.1.parameters_within, f.parameters, f.temporaries);
        temporaries_some = omega (arith, a.1.temporaries_some, f.temporaries);
        temporaries_few = omega (arith, a.1.temporaries_few, f.temporaries);
        nodes_some = omega (arith, a.1.nodes_some);
        nodes_few = omega (arith, a.1.nodes_few);
        sound = subst (λ v. AllByRecursion (Sound v (length s.nodes)) s.nodes) (sym f.temporaries) (subst (λ m. AllByRecursion (Sound h.temporaries m) s.nodes) (sym n) b.sound);
      },
      sym (written_cut bs f.good) ∙ ap (λ ls. written (map fields_of ls)) f.cut
          ∙ (λ i. written ((a.0 ∙ (λ j. codes "source" ∷ decimal (sym f.parameters j) ∷ decimal (sym f.temporaries j) ∷ decimal (sym n j) ∷ [])) i ∷ b.fields i)),
    )

-- fields that are short and have no separator in them

pub record Clean (f : List ℕ) : Type 0 where
  pub no_tab : Lacks 9 f
  pub no_end : Lacks 10 f
  pub short : length f ≤ 10

plain : (fs : List (List ℕ)) → 0 < length fs → AllByRecursion Clean fs → Plain fs
plain fs some c = record { some = some; no_tab = tabs fs c; no_end = ends fs c }
  where
    tabs : (gs : List (List ℕ)) → AllByRecursion Clean gs → AllLack 9 gs
    tabs [] d = tt
    tabs (g ∷ gs) d = (d.0.no_tab, tabs gs d.1)

    ends : (gs : List (List ℕ)) → AllByRecursion Clean gs → AllLack 10 gs
    ends [] d = tt
    ends (g ∷ gs) d = (d.0.no_end, ends gs d.1)

row_short : (fs : List (List ℕ)) → AllByRecursion Clean fs → length (ended fs) ≤ 11 * length fs
row_short [] c = omega arith
row_short (p ∷ []) c = omega (arith, length-append p (10 ∷ []), c.0.short)
row_short (p ∷ q ∷ ps) c = omega (arith, length-append p (9 ∷ ended (q ∷ ps)), c.0.short, row_short (q ∷ ps) c.1)

number_clean : (n : ℕ) → n < 10 ^ 10 → Clean (decimal n)
number_clean n h = record { no_tab = decimal_lacks 9 (omega arith) n h; no_end = decimal_lacks 10 (omega arith) n h; short = length-decimal-le 10 n (omega arith) h (omega arith) }

opcode_clean : (o : Opcode) → Clean (opcode_name o)
opcode_clean o = record { no_tab = opcode_inverse.lacks 9 (omega arith) o tt; no_end = opcode_inverse.lacks 10 (omega arith) o tt; short = opcode_short o }

-- a line of a node: at most six fields, all clean
pub record Line (fs : List (List ℕ)) : Type 0 where
  pub some : 0 < length fs
  pub few : length fs ≤ 6
  pub clean : AllByRecursion Clean fs

module _ (v n : ℕ) (small : v ≤ 48) (few_nodes : n ≤ 256) where
  node_line : (x : Node) → Sound v n x → Line (node_fields x)
  node_line (Const d k next) s = record { some = omega arith; few = omega arith; clean = (opcode_clean opcode.Const, (number_clean d (omega arith), (number_clean k (omega arith), (number_clean next (omega arith), tt)))) }
  node_line (Mov d a next) s = record { some = omega arith; few = omega arith; clean = (opcode_clean opcode.Mov, (number_clean d (omega arith), (number_clean a (omega arith), (number_clean next (omega arith), tt)))) }
  node_line (Binary o d a b next) s =
      record { some = omega arith; few = omega arith; clean = (opcode_clean (opcode.Binary o), (number_clean d (omega arith), (number_clean a (omega arith), (number_clean b (omega arith), (number_clean next (omega arith), tt))))) }
  node_line (Call d h a b next) s =
      record { some = omega arith; few = omega arith; clean = (opcode_clean opcode.Call, (number_clean d (omega arith), (number_clean h (omega arith), (number_clean a (omega arith), (number_clean b (omega arith), (number_clean next (omega arith), tt)))))) }
  node_line (Branch c a b taken other) s =
      record {
        some = omega arith;
        few = omega arith;
        clean = (opcode_clean opcode.Branch, (record { no_tab = condition_inverse.lacks 9 (omega arith) c tt; no_end = condition_inverse.lacks 10 (omega arith) c tt; short = condition_short c }, (number_clean a (omega arith), (number_clean b (omega arith), (number_clean taken (omega arith), (number_clean other (omega arith), tt))))));
      }
  node_line (Return a) s = record { some = omega arith; few = omega arith; clean = (opcode_clean opcode.Return, (number_clean a (omega arith), tt)) }

  node_lines : (ns : List Node) → AllByRecursion (Sound v n) ns → AllByRecursion Line (map node_fields ns)
  node_lines [] s = tt
  node_lines (x ∷ ns) s = (node_line x s.0, node_lines ns s.1)

lines_plain : (ls : List (List (List ℕ))) → AllByRecursion Line ls → AllPlain ls
lines_plain [] c = tt
lines_plain (fs ∷ ls) c = (plain fs c.0.some c.0.clean, lines_plain ls c.1)

lines_short : (ls : List (List (List ℕ))) → AllByRecursion Line ls → length (written ls) ≤ 66 * length ls
unfolding written
lines_short [] c = omega arith
lines_short (fs ∷ ls) c = omega (arith, length-append (ended fs) (written ls), row_short fs c.0.clean, c.0.few, lines_short ls c.1)

pub written_is_read : WrittenIsRead
unfolding source_text read_source
written_is_read s w =
    let h : Heading = record { parameters = s.parameters; temporaries = s.temporaries; nodes = length s.nodes } in
    let hw : HeadingIn h = record { parameters_few = w.parameters_few; parameters_within = w.parameters_within; temporaries_some = w.temporaries_some; temporaries_few = w.temporaries_few; nodes_some = w.nodes_some; nodes_few = w.nodes_few } in
    let rows = heading_fields s ∷ map node_fields s.nodes in
    let all : AllByRecursion Line rows = (
      record { some = omega arith; few = omega arith; clean = (record { no_tab = omega arith; no_end = omega arith; short = omega arith }, (number_clean s.parameters (omega (arith, w.parameters_few)), (number_clean s.temporaries (omega (arith, w.temporaries_few)), (number_clean (length s.nodes) (omega (arith, w.nodes_few)), tt)))) },
      node_lines s.temporaries (length s.nodes) w.temporaries_few w.nodes_few s.nodes w.sound,
    ) in
    let good : sized (written rows) ≡ true = sized-written rows (lines_plain rows all) (omega arith) (omega (arith, lines_short rows all, length-map s.nodes node_fields, w.nodes_few)) in
    cond-true _ _ _ good ∙ go h hw refl refl refl (lines_of (written rows)) (cut_written rows (lines_plain rows all))
  where
    go : (h : Heading) → HeadingIn h → h.parameters ≡ s.parameters → h.temporaries ≡ s.temporaries → h.nodes ≡ length s.nodes → (ls : List (List ℕ)) → map fields_of ls ≡ heading_fields s ∷ map node_fields s.nodes → headed ls ≡ Ok s
    go h hw p v n [] e = let z : ◌≡◌ {A = ℕ} 0 1 = cc in absurd (omega arith)
    go h hw p v n (l ∷ ls) e =
        let here : fields_of l ≡ heading_fields s = cc in
        let more : map fields_of ls ≡ map node_fields s.nodes = cc in
        let head : heading_of (shapes_of l) ≡ Some h = ap (λ fs. heading_of (map shape_of fs)) (here ∙ (λ i. codes "source" ∷ decimal (sym p i) ∷ decimal (sym v i) ∷ decimal (sym n i) ∷ [])) ∙ heading_ok h hw in
        let long : length ls ≡ h.nodes = sym (length-map ls fields_of) ∙ ap length more ∙ length-map s.nodes node_fields ∙ sym n in
        let sound : AllByRecursion (Sound h.temporaries h.nodes) s.nodes = subst (λ x. AllByRecursion (Sound x h.nodes) s.nodes) (sym v) (subst (λ x. AllByRecursion (Sound s.temporaries x) s.nodes) (sym n) w.sound) in
        ap (counted ls) head ∙ cond-true _ _ _ (eq-eqb (length ls) h.nodes long) ∙ ap (sourced h) (nodes_written h (few h hw) 2 ls s.nodes more sound)
        ∙ (λ i. Ok (record { parameters = p i; temporaries = v i; nodes = s.nodes }))

-- the same of a text that is read, and of one that is refused

pub refused_exactly : (bs : List ℕ) (e : Refusal) → read_source bs ≡ Err e → (s : Source) → IsTextOf bs s → ⊥
refused_exactly bs e q s t =
    let r : read_source bs ≡ Ok s = ap read_source t.1 ∙ written_is_read s t.0 in
    let z : ◌≡◌ {A = ℕ} 0 1 = cc in omega arith
