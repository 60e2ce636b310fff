-- What a run relies on, of accepted tables.
use Rattle.std.proofs.Common.{◌≡◌, ℕ, Bool, map, length, take, sym, ap, ◌∙◌, arith}
use lib.ListN.{length-map}
use Rattle.source.specs.Reading.{Source}
use Rattle.allocation.specs.Allocations.{line_at, rows_in, moves_in, allocation_of}
use Rattle.allocation.specs.declared.tables.Tables.{Tables}
use Rattle.equations.specs.Verdict.{Fits, Accepted}
use Rattle.machine.specs.declared.code.Code.{Code}
use Rattle.machine.specs.Run.{code_allocation, Runnable}
use Rattle.soundness.proofs.Asking.{accepted_asks_lem}

-- the code of a source and of tables that were accepted for it
module _ (c : Code) (s : Source) (t : Tables) (temporaries : c.source.temporaries ≡ s.temporaries) (nodes : c.nodes.now ≡ s.nodes) (heading : c.locations ≡ t.heading) (entry : c.entry ≡ t.entry) (rows : c.rows.now ≡ rows_in t) (moves : c.moves.now ≡ moves_in t) where
  pub same_allocation : code_allocation c ≡ allocation_of t
  same_allocation i = record { registers = (heading i).registers; slots = (heading i).slots; entry = take (entry i) (moves i); lines = map (line_at (moves i)) (rows i) }

  pub runnable : (size : ℕ) (X : ℕ → ℕ × ℕ → Bool) → Fits s (allocation_of t) → Accepted s (allocation_of t) size X → Runnable c
  runnable size X fits acc = record {
    sound = rw (temporaries, nodes) fits.sound;
    some = rw nodes fits.some;
    long = ap length rows ∙ sym (length-map (rows_in t) (line_at (moves_in t))) ∙ fits.lines ∙ sym (ap length nodes);
    rows = rw (heading, rows, moves) t.rows_fit;
    moves = rw (heading, moves) t.moves_fit;
    entry = rw (entry, moves) t.entry_within;
    few = rw moves (omega (arith, t.move_len, t.few_moves));
    asking = rw (nodes, rows) (accepted_asks_lem s t size X fits acc);
  }
