-- How long the text of a well-formed allocation can be.
use Rattle.std.proofs.Common.{◌≡◌, ℕ, ◌+◌, ◌-◌, ◌*◌, ◌<◌, ◌≤◌, Bool, true, false, cond, ◌&&◌, ltb, List, [], ◌∷◌, ◌++◌, length, codes, decimal, ◌∙◌, arith}
use Rattle.std.specs.List.{AllByRecursion}
use Rattle.std.proofs.lemmas.Fmt.{length-decimal-le}
use Rattle.std.proofs.lemmas.List.{length-append}
use Rattle.std.proofs.lemmas.Bool.{and_parts, ltb-true}
use Rattle.text.specs.Parts.{ended, written}
use Rattle.source.specs.Words.{operation_name, condition_name}
use Rattle.source.specs.declared.node.Operation.{Operation}
use Rattle.source.specs.declared.node.Operation.TheVariants.{Add, Sub, Mul, Min, Max}
use Rattle.source.specs.declared.node.Condition.{Condition}
use Rattle.source.specs.declared.node.Condition.TheVariants.{Eq, Lt, Le}
use Rattle.allocation.specs.declared.line.Move.{Move}
use Rattle.allocation.specs.declared.line.Main.{Main}
use Rattle.allocation.specs.declared.line.Main.TheVariants.{Skip, Const, Binary, Call, Branch, Return}
use Rattle.allocation.specs.declared.words.Edge.{Edge}
use Rattle.allocation.specs.declared.words.Edge.TheVariants.{Entry, In, Out, Alt}
use Rattle.allocation.specs.Allocations.{Line, Allocation}
use Rattle.allocation.specs.Lines.{line_moves, lines_moves}
use Rattle.allocation.specs.Ranges.{main_line_fits}
use Rattle.allocation.specs.Rendering.{register_name, location_name, main_fields, move_rows, line_rows, lines_rows, render}
use Rattle.allocation.specs.Words.{edge_name}
use Rattle.allocation.specs.WellFormed.{MovesIn, LineIn, WellFormed}

-- a line's bytes: each field and one byte after it
abbrev bytes : List (List ℕ) → ℕ
bytes [] = 0
bytes (f ∷ fs) = length f + 1 + bytes fs

ended_long : (f : List ℕ) (fs : List (List ℕ)) → length (ended (f ∷ fs)) ≡ bytes (f ∷ fs)
ended_long f [] = length-append f (10 ∷ []) ∙ omega arith
ended_long f (g ∷ fs) = length-append f (9 ∷ ended (g ∷ fs)) ∙ omega (arith, ended_long g fs)

-- the bytes of several lines
abbrev size : List (List (List ℕ)) → ℕ
size rows = length (written rows)

size_append : (xs ys : List (List (List ℕ))) → size (xs ++ ys) ≡ size xs + size ys
unfolding written
size_append [] ys = omega arith
size_append (x ∷ xs) ys = length-append (ended x) (written (xs ++ ys)) ∙ omega (arith, size_append xs ys, length-append (ended x) (written xs))

size_one : (f : List ℕ) (fs : List (List ℕ)) (rows : List (List (List ℕ))) → size ((f ∷ fs) ∷ rows) ≡ bytes (f ∷ fs) + size rows
unfolding written
size_one f fs rows = length-append (ended (f ∷ fs)) (written rows) ∙ omega (arith, ended_long f fs)

edge_short : (e : Edge) → length (edge_name e) ≤ 5
edge_short Entry = omega arith
edge_short In = omega arith
edge_short Out = omega arith
edge_short Alt = omega arith

operation_short : (o : Operation) → length (operation_name o) ≤ 3
operation_short Add = omega arith
operation_short Sub = omega arith
operation_short Mul = omega arith
operation_short Min = omega arith
operation_short Max = omega arith

condition_short : (c : Condition) → length (condition_name c) ≤ 2
condition_short Eq = omega arith
condition_short Lt = omega arith
condition_short Le = omega arith

two_digits : (n : ℕ) → n < 100 → length (decimal n) ≤ 2
two_digits n h = length-decimal-le 2 n (omega arith) h (omega arith)

three_digits : (n : ℕ) → n < 1000 → length (decimal n) ≤ 3
three_digits n h = length-decimal-le 3 n (omega arith) h (omega arith)

module _ (r s : ℕ) (few-registers : r ≤ 16) (few-slots : s ≤ 48) where
  location_short : (l : ℕ) → l < r + s → length (location_name r l) ≤ 3
  location_short l h = go (ltb l r)
    where
      go : (t : Bool) → length (cond t (register_name l) (115 ∷ decimal (l - r))) ≤ 3
      go true = omega (arith, two_digits l (omega arith))
      go false = omega (arith, two_digits (l - r) (omega arith))

  register_short : (l : ℕ) → ltb l r ≡ true → length (register_name l) ≤ 3
  register_short l h = omega (arith, two_digits l (omega (arith, ltb-true l r h)))

  moves_short : (e : Edge) (ms : List Move) → MovesIn r s ms → size (move_rows r e ms) ≤ 14 * length ms
  unfolding written
  moves_short e [] ok = omega arith
  moves_short e (m ∷ ms) ok =
      let a = and_parts (ltb m.to (r + s) && ltb m.from (r + s)) _ ok.0 in
      let b = and_parts (ltb m.to (r + s)) _ a.0 in
      omega (arith, size_one (edge_name e) (location_name r m.to ∷ location_name r m.from ∷ []) (move_rows r e ms), edge_short e, location_short m.to (ltb-true _ _ b.0), location_short m.from (ltb-true _ _ b.1), moves_short e ms ok.1)

  main_short : (m : Main) → main_line_fits r m ≡ true → (rows : List (List (List ℕ))) → size (main_fields m ∷ rows) ≤ 21 + size rows
  main_short Skip ok rows = omega (arith, size_one (codes "skip") [] rows)
  main_short (Const l k) ok rows =
      let a = and_parts (ltb l r) _ ok in
      omega (arith, size_one (codes "const") (register_name l ∷ decimal k ∷ []) rows, register_short l a.0, length-decimal-le 10 k (omega arith) (omega (arith, ltb-true _ _ a.1)) (omega (arith, ltb-true _ _ a.1)))
  main_short (Binary o l x y) ok rows =
      let a = and_parts (ltb l r) _ ok in
      let b = and_parts (ltb x r) _ a.1 in
      omega (arith, size_one (operation_name o) (register_name l ∷ register_name x ∷ register_name y ∷ []) rows, operation_short o, register_short l a.0, register_short x b.0, register_short y b.1)
  main_short (Call l h x y) ok rows =
      let a = and_parts (ltb l r) _ ok in
      let d = and_parts (ltb h 256) _ a.1 in
      let b = and_parts (ltb x r) _ d.1 in
      omega (arith, size_one (codes "call") (register_name l ∷ decimal h ∷ register_name x ∷ register_name y ∷ []) rows, register_short l a.0, three_digits h (omega (arith, ltb-true _ _ d.0)), register_short x b.0, register_short y b.1)
  main_short (Branch c x y) ok rows =
      let b = and_parts (ltb x r) _ ok in
      omega (arith, size_one (codes "br") (condition_name c ∷ register_name x ∷ register_name y ∷ []) rows, condition_short c, register_short x b.0, register_short y b.1)
  main_short (Return x) ok rows = omega (arith, size_one (codes "ret") (register_name x ∷ []) rows, register_short x ok)

  line_short : (l : Line) → LineIn r s l → size (line_rows r l) ≤ 21 + 14 * line_moves l
  line_short l ok =
      let after = move_rows r Out l.outs ++ move_rows r Alt l.alts in
      omega (
        arith,
        size_append (move_rows r In l.ins) (main_fields l.main ∷ after),
        main_short l.main ok.main_in after,
        size_append (move_rows r Out l.outs) (move_rows r Alt l.alts),
        moves_short In l.ins ok.ins_in,
        moves_short Out l.outs ok.outs_in,
        moves_short Alt l.alts ok.alts_in,
      )

  lines_short : (ls : List Line) → AllByRecursion (LineIn r s) ls → size (lines_rows r ls) ≤ 21 * length ls + 14 * lines_moves ls
  unfolding written
  lines_short [] ok = omega arith
  lines_short (l ∷ ls) ok = omega (arith, size_append (line_rows r l) (lines_rows r ls), line_short l ok.0, lines_short ls ok.1)

-- 1,024 moves and 256 nodes fit a text
pub text_short : (p n : ℕ) (a : Allocation) → WellFormed p n a → length (render a) ≤ 32768
unfolding render
text_short p n a w =
    let r = a.registers in
    omega (
      arith,
      size_one (codes "alloc") (decimal r ∷ decimal a.slots ∷ decimal (length a.lines) ∷ []) (move_rows r Entry a.entry ++ lines_rows r a.lines),
      size_append (move_rows r Entry a.entry) (lines_rows r a.lines),
      two_digits r (omega (arith, w.registers_high)),
      two_digits a.slots (omega (arith, w.slots_high)),
      three_digits (length a.lines) (omega (arith, w.nodes, w.few_nodes)),
      moves_short r a.slots w.registers_high w.slots_high Entry a.entry w.entry_in,
      lines_short r a.slots w.registers_high w.slots_high a.lines w.lines_in,
      w.few_moves,
      w.nodes,
      w.few_nodes,
    )
