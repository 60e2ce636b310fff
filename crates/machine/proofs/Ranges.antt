-- What the tables of a run keep in range.
use Rattle.std.proofs.Common.{◌≡◌, ℕ, ◌+◌, ◌-◌, ◌<◌, ◌≤◌, Bool, true, false, ◌&&◌, leb, List, [], map, length, get_or, sym, ap, ◌∙◌, subst, arith}
use lib.ListN.{get_or-map}
use Rattle.std.specs.List.{between}
use Rattle.std.proofs.lemmas.List.Edits.{length-between, get_or-between}
use Rattle.std.proofs.lemmas.Bool.{and_parts}
use Rattle.std.proofs.lemmas.Bool.Decides.{nat_tests}
use Rattle.source.specs.Nodes.{sound, successor}
use Rattle.source.specs.declared.node.Node.{Node}
use Rattle.source.specs.declared.node.Node.TheVariants.{Const, Mov, Binary, Call, Branch, Return}
use Rattle.allocation.specs.Allocations.{line_at}
use Rattle.allocation.specs.Ranges.{row_at, move_at, main_line_fits, row_fits, move_fits, MovesFit}
use Rattle.allocation.specs.declared.line.Move.{Move}
use Rattle.allocation.specs.declared.line.Main.TheVariants.{Skip}
use Rattle.allocation.specs.declared.line.Row.{Row}
use Rattle.allocation.specs.Lines.{edge_moves}
use Rattle.machine.specs.declared.code.Code.{Code}
use Rattle.machine.specs.Run.{Runnable}
use Rattle.machine.specs.Steps.{ReadsBelow}

-- a sound node goes on to a node
pub sound_next : (v k : ℕ) (n : Node) (e : Bool) → 0 < k → sound v k n ≡ true → successor n e < k
sound_next v k (Const d i next) e h s = grind (arith, nat_tests)
sound_next v k (Mov d a next) e h s = grind (arith, nat_tests)
sound_next v k (Binary o d a b next) e h s = grind (arith, nat_tests)
sound_next v k (Call d f a b next) e h s = grind (arith, nat_tests)
sound_next v k (Branch c a b taken other) true h s = grind (arith, nat_tests)
sound_next v k (Branch c a b taken other) false h s = grind (arith, nat_tests)
sound_next v k (Return a) e h s = h

-- the parts of a row that fits
pub record RowFit (r len : ℕ) (row : Row) : Type 0 where
  pub main : main_line_fits r row.main ≡ true
  pub ins : row.ins ≤ row.outs
  pub outs : row.outs ≤ row.alts
  pub alts : row.alts ≤ row.end
  pub end : row.end ≤ len

pub row_parts : (r len : ℕ) (row : Row) → row_fits r len row ≡ true → RowFit r len row
row_parts r len row e =
    let a = and_parts (main_line_fits r row.main) (leb row.ins row.outs && (leb row.outs row.alts && (leb row.alts row.end && leb row.end len))) e in
    record { main = a.0; ins = grind (arith, nat_tests); outs = grind (arith, nat_tests); alts = grind (arith, nat_tests); end = grind (arith, nat_tests) }

move_from : (r s : ℕ) (m : Move) → move_fits r s m ≡ true → m.from < r + s
move_from r s m e = grind (arith, nat_tests)

-- the moves of a part read cells that are there
pub reads_part : (r s k : ℕ) (ms xs : List Move) (i j : ℕ) → xs ≡ between i j ms → MovesFit r s ms → r + s ≤ k → j ≤ length ms → ReadsBelow k xs
reads_part r s k ms xs i j e fit w h n b =
    let in-part : n < j - i = subst (λ (x : ℕ). n < x) (ap length e ∙ length-between ms i j h) b in
    let low : (move_at ms (i + n)).from < r + s = move_from r s (move_at ms (i + n)) (fit (i + n) (omega arith)) in
    let same : move_at xs n ≡ move_at ms (i + n) = ap (λ ys. move_at ys n) e ∙ get_or-between ms i j n (record { to = 0; from = 0 }) (omega arith) in
    subst (λ (m : Move). m.from < k) (sym same) (omega arith)

pub line_is : (ms : List Move) (rows : List Row) (n : ℕ) → get_or (map (line_at ms) rows) n (record { ins = []; main = Skip; outs = []; alts = [] }) ≡ line_at ms (row_at rows n)
line_is ms rows n = get_or-map (line_at ms) rows n (record { main = Skip; ins = 0; outs = 0; alts = 0; end = 0 })

-- no part is longer than the table
pub part_length : (ms xs : List Move) (i j : ℕ) → xs ≡ between i j ms → j ≤ length ms → length xs ≤ length ms
part_length ms xs i j e h = subst (λ (x : ℕ). x ≤ length ms) (sym (ap length e ∙ length-between ms i j h)) (omega arith)

pub edge_length : (r : ℕ) (ms xs : List Move) (row : Row) (e : Bool) → xs ≡ edge_moves (line_at ms row) e → RowFit r (length ms) row → length xs ≤ length ms
edge_length r ms xs row true is f = part_length ms xs row.outs row.alts is (omega arith)
edge_length r ms xs row false is f = part_length ms xs row.alts row.end is f.end

pub reads_edge : (r s k : ℕ) (ms xs : List Move) (row : Row) (e : Bool) → xs ≡ edge_moves (line_at ms row) e → MovesFit r s ms → r + s ≤ k → RowFit r (length ms) row → ReadsBelow k xs
reads_edge r s k ms xs row true is fit w f = reads_part r s k ms xs row.outs row.alts is fit w (omega arith)
reads_edge r s k ms xs row false is fit w f = reads_part r s k ms xs row.alts row.end is fit w f.end

-- the row of a node
pub row_here : (code : Code) (n : ℕ) → Runnable code → n < length code.nodes.now → RowFit code.locations.registers (length code.moves.now) (row_at code.rows.now n)
row_here code n r h = row_parts code.locations.registers (length code.moves.now) (row_at code.rows.now n) (r.rows n (omega (arith, r.long)))
