-- Every location that an allocation names is there.
use Rattle.std.proofs.Common.{◌≡◌, ℕ, ◌<◌, true, List, [], length, drop, sym, subst}
use lib.ListN.{length-map}
use Rattle.std.specs.List.{between}
use Rattle.std.proofs.ByRecursion.{All-get_or, All-from_get_or, All-take, All-drop}
use Rattle.allocation.specs.Allocations.{Line, Allocation, line_at, rows_in, moves_in, allocation_of}
use Rattle.allocation.specs.Lines.{line_of}
use Rattle.allocation.specs.Ranges.{move_fits, main_line_fits, row_at, MovesFit}
use Rattle.allocation.specs.WellFormed.{MovesIn, LineIn, WellFormed}
use Rattle.allocation.specs.declared.line.Move.{Move}
use Rattle.allocation.specs.declared.line.Main.TheVariants.{Skip}
use Rattle.allocation.specs.declared.tables.Tables.{Tables}
use Rattle.machine.proofs.Ranges.{line_is, row_parts}

pub record LineLocated (r s : ℕ) (l : Line) : Type 0 where
  pub ins : MovesIn r s l.ins
  pub main : main_line_fits r l.main ≡ true
  pub outs : MovesIn r s l.outs
  pub alts : MovesIn r s l.alts

pub record Located (a : Allocation) : Type 0 where
  pub entry : MovesIn a.registers a.slots a.entry
  pub line : (n : ℕ) → n < length a.lines → LineLocated a.registers a.slots (line_of a n)

pub well_located : (p n : ℕ) (a : Allocation) → WellFormed p n a → Located a
well_located p n a w = record {
  entry = w.entry_in;
  line = λ k h.
      let l = All-get_or (LineIn a.registers a.slots) a.lines k (record { ins = []; main = Skip; outs = []; alts = [] }) h w.lines_in in
      record { ins = l.ins_in; main = l.main_in; outs = l.outs_in; alts = l.alts_in };
}

all_moves : (r s : ℕ) (ms : List Move) → MovesFit r s ms → MovesIn r s ms
all_moves r s ms h = All-from_get_or (λ m. move_fits r s m ≡ true) ms (record { to = 0; from = 0 }) h

part_located : (r s : ℕ) (ms : List Move) (i j : ℕ) → MovesFit r s ms → MovesIn r s (between i j ms)
part_located r s ms i j h = All-take (λ m. move_fits r s m ≡ true) _ (drop i ms) (All-drop (λ m. move_fits r s m ≡ true) i ms (all_moves r s ms h))

pub tables_located : (t : Tables) → Located (allocation_of t)
tables_located t = record {
  entry = All-take (λ m. move_fits r s m ≡ true) t.entry ms (all_moves r s ms t.moves_fit);
  line = λ n h.
      let row = row_at (rows_in t) n in
      let fit = row_parts r (length ms) row (t.rows_fit n (subst (λ (k : ℕ). n < k) (length-map (rows_in t) (line_at ms)) h)) in
      let here : LineLocated r s (line_at ms row) = record { ins = part_located r s ms row.ins row.outs t.moves_fit; main = fit.main; outs = part_located r s ms row.outs row.alts t.moves_fit; alts = part_located r s ms row.alts row.end t.moves_fit } in
      subst (λ (l : Line). LineLocated r s l) (sym (line_is ms (rows_in t) n)) here;
}
  where
    r : ℕ
    r = t.heading.registers

    s : ℕ
    s = t.heading.slots

    ms : List Move
    ms = moves_in t
