use Rattle.std.proofs.Common.{◌≡◌, ◌+◌, ◌-◌, ◌<◌, ◌≤◌, ◌⊎◌, [], ◌∷◌, ◌++◌, map, length, get_or, drop, sym, subst, inl, inr, arith}
use borrow.Rule.Slice.PartMut.{put_mid}
use Rattle.std.proofs.lemmas.List.{take_rest, length-drop, at_drop_all}
use Rattle.text.specs.Parts.{ended}
use Rattle.text.specs.Put.{piece_bytes}
use Rattle.text.proofs.Writing.{Wrote, wrote_byte, wrote_part, wrote_all, ended-room, ended_step, no_piece}
use Rattle.text.proofs.put.put_line.Goals as goal
use Rattle.text.proofs.put.put_line.Goals.{then-i-row, else-i-row}

pub put_piece-requires : goal.put_piece-requires
put_piece-requires c = simp (take_rest, length-drop) (omega (arith, ended-room piece_bytes c.args.row.now c.loop-i.i no_piece c.loop-i-test.true))

pub overflow_add-at : goal.overflow_add-at
overflow_add-at c = omega (arith, ended-room piece_bytes c.args.row.now c.loop-i.i no_piece c.loop-i-test.true)

pub bounds-out-at : goal.bounds-out-at
bounds-out-at c = omega (arith, ended-room piece_bytes c.args.row.now c.loop-i.i no_piece c.loop-i-test.true)

pub overflow_add-at-in-loop-i : goal.overflow_add-at-in-loop-i
overflow_add-at-in-loop-i c = omega (arith, ended-room piece_bytes c.args.row.now c.loop-i.i no_piece c.loop-i-test.true)

pub loop-i-preserved : goal.loop-i-preserved
loop-i-preserved c =
    let row = c.args.row.now in
    let i = c.loop-i.i in
    let all = ended (map piece_bytes row) in
    let left = ended (map piece_bytes (drop (i + 1) row)) in
    let x = piece_bytes (get_or row i no_piece) in
    let b = c.if-i-row.out in
    let room = ended-room piece_bytes row i no_piece c.loop-i-test.true in
    let way : ((i + 1 < length row) × (b ≡ 9)) ⊎ ((length row ≤ i + 1) × (b ≡ 10)) = elim c.if-i-row.branch [ then-i-row w ↦ inl (w.if-i-row.true, w.out-is) | else-i-row w ↦ inr (w.if-i-row.false, w.out-is) ] in
    let w0 : Wrote all c.args.out.now c.loop-i.out c.loop-i.at (x ++ (b ∷ left)) = subst (Wrote all c.args.out.now c.loop-i.out c.loop-i.at) (ended_step piece_bytes row i no_piece c.loop-i-test.true b way) c.loop-i.invariant in
    let w1 = wrote_part x {left = b ∷ left} c.put_piece.new.out w0 (omega (arith, room)) c.put_piece.ensures.bytes in
    let w2 : Wrote all c.args.out.now (put_mid c.loop-i.at (length c.loop-i.out - c.loop-i.at) c.loop-i.out c.put_piece.new.out) (c.loop-i.at + c.put_piece.result) (b ∷ left) = subst (λ k. Wrote all c.args.out.now (put_mid c.loop-i.at (length c.loop-i.out - c.loop-i.at) c.loop-i.out c.put_piece.new.out) (c.loop-i.at + k) (b ∷ left)) (sym c.put_piece.ensures.count) w1 in
    wrote_byte {b = b} {left = left} w2 (omega (arith, room))

pub returns : goal.returns
returns c =
    let w : Wrote (ended (map piece_bytes c.args.row.now)) c.args.out.now c.loop-i.out c.loop-i.at [] = subst (Wrote (ended (map piece_bytes c.args.row.now)) c.args.out.now c.loop-i.out c.loop-i.at) (at_drop_all (λ ys. ended (map piece_bytes ys)) c.args.row.now c.loop-i.i (omega arith)) c.loop-i.invariant in
    record { count = (wrote_all w).0; bytes = (wrote_all w).1 }
