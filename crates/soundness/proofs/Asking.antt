-- Accepted tables ask the host only where the source's nodes do.
use Rattle.std.proofs.Common.{◌≡◌, true, false, length, sym, refl, ap, ◌∙◌, ⊎_elim, arith}
use lib.ListN.{length-map}
use Rattle.std.proofs.lemmas.Bool.{both_ways}
use Rattle.source.specs.Nodes.{action, node_at}
use Rattle.allocation.specs.Allocations.{Line, line_at, rows_in, moves_in, allocation_of}
use Rattle.allocation.specs.Lines.{main_action, line_of}
use Rattle.allocation.specs.Ranges.{row_at}
use Rattle.machine.specs.Machine.{asks}
use Rattle.machine.proofs.Ranges.{line_is}
use Rattle.soundness.specs.Law.{AcceptedAsks}
use Rattle.soundness.proofs.Questions.{matching}

pub accepted_asks_lem : AcceptedAsks
accepted_asks_lem s t size X fits acc n h e =
    let rows : length (allocation_of t).lines ≡ length (rows_in t) = length-map (rows_in t) (line_at (moves_in t)) in
    let here : line_of (allocation_of t) n ≡ line_at (moves_in t) (row_at (rows_in t) n) = line_is (moves_in t) (rows_in t) n in
    let asked : asks (main_action (line_of (allocation_of t) n).main) ≡ true = ap (λ (l : Line). asks (main_action l.main)) here ∙ e in
    ⊎_elim (λ same. sym (ap asks same) ∙ asked) (λ skips. absurd (both_ways false refl (sym (ap asks skips.0) ∙ asked))) (matching (main_action (line_of (allocation_of t) n).main) (action (node_at s.nodes n)) (acc.ready.matches n (omega (arith, rows, fits.lines, h))))
