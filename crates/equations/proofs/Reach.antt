-- What fits is within reach: every location and every temporary is below 64, and every place is in its table.
use Rattle.std.proofs.Common.{◌≡◌, ℕ, ◌+◌, ◌<◌, ◌≤◌, true, ◌&&◌, ltb, leb, List, length, arith}
use Rattle.std.proofs.lemmas.Bool.{and_parts, leb-true, ltb-true}
use Rattle.source.specs.Nodes.{AllSound}
use Rattle.source.specs.declared.node.Node.{Node}
use Rattle.allocation.specs.Ranges.{main_line_fits, row_fits, move_fits, row_at, move_at}
use Rattle.allocation.specs.declared.line.Move.{Move}
use Rattle.allocation.specs.declared.line.Main.{Main}
use Rattle.allocation.specs.declared.line.Main.TheVariants.{Skip, Const, Binary, Call, Branch, Return}
use Rattle.allocation.specs.declared.line.Row.{Row}
use Rattle.equations.specs.Steps.{MovesReach, MainReach, RowReach}
use Rattle.equations.specs.declared.candidate.Candidate.{Candidate}

-- the tables of a source and of its allocation
pub record Reach (nodes : List Node) (rows : List Row) (moves : List Move) : Type 0 where
  pub node : AllSound 64 nodes
  pub long : length rows ≡ length nodes
  pub row : (n : ℕ) → n < length rows → RowReach (length moves) (row_at rows n)
  pub move : MovesReach moves

module _ (r : ℕ) (few : r ≤ 64) where
  low : (l : ℕ) → ltb l r ≡ true → l < 64
  low l h = omega (arith, ltb-true l r h)

  main_reach : (main : Main) → main_line_fits r main ≡ true → MainReach main
  main_reach Skip h = record { target = tt; origins = tt }
  main_reach (Const l k) h = let p = and_parts (ltb l r) _ h in record { target = low l p.0; origins = tt }
  main_reach (Binary o l a b) h =
      let p = and_parts (ltb l r) _ h in let q = and_parts (ltb a r) _ p.1 in
      record { target = low l p.0; origins = (low a q.0, (low b q.1, tt)) }
  main_reach (Call l g a b) h =
      let p = and_parts (ltb l r) _ h in let o = and_parts (ltb g 256) _ p.1 in let q = and_parts (ltb a r) _ o.1 in
      record { target = low l p.0; origins = (low a q.0, (low b q.1, tt)) }
  main_reach (Branch c a b) h = let q = and_parts (ltb a r) _ h in record { target = tt; origins = (low a q.0, (low b q.1, tt)) }
  main_reach (Return a) h = record { target = tt; origins = (low a h, tt) }

  row_reach : (len : ℕ) (row : Row) → row_fits r len row ≡ true → RowReach len row
  row_reach len row h =
      let a = and_parts (main_line_fits r row.main) _ h in
      let b = and_parts (leb row.ins row.outs) _ a.1 in
      let c = and_parts (leb row.outs row.alts) _ b.1 in
      let d = and_parts (leb row.alts row.end) _ c.1 in
      record { main = main_reach row.main a.0; ins = leb-true _ _ b.0; outs = leb-true _ _ c.0; alts = leb-true _ _ d.0; end = leb-true _ _ d.1 }

pub moves_reach : (r s : ℕ) (ms : List Move) → r + s ≤ 64 → ((n : ℕ) → n < length ms → move_fits r s (move_at ms n) ≡ true) → MovesReach ms
moves_reach r s ms few fit = record { at = at }
  where
    at : (i : ℕ) → i < length ms → ((move_at ms i).to < 64) × ((move_at ms i).from < 64)
    at i h =
        let p = and_parts (ltb (move_at ms i).to (r + s) && ltb (move_at ms i).from (r + s)) _ (fit i h) in
        let q = and_parts (ltb (move_at ms i).to (r + s)) _ p.0 in
        (omega (arith, ltb-true (move_at ms i).to (r + s) q.0), omega (arith, ltb-true (move_at ms i).from (r + s) q.1))

module _ (c : Candidate) where
  pub reach_of : Reach c.nodes.now c.rows.now c.moves.now
  reach_of = record {
    node = c.sound;
    long = c.long;
    row = λ n h. row_reach c.locations.registers (omega (arith, c.few)) (length c.moves.now) (row_at c.rows.now n) (c.rows_fit n h);
    move = moves_reach c.locations.registers c.locations.slots c.moves.now c.few c.moves_fit;
  }

  pub entry_reach : MovesReach c.entry.now
  entry_reach = moves_reach c.locations.registers c.locations.slots c.entry.now c.few c.entry_fits
