-- Numbers that are in range, as tests, which the invariant of a type can state.
use Rattle.std.specs.Prelude.{◌≡◌, ℕ, ◌+◌, ◌^◌, ◌<◌, Bool, true, ◌&&◌, ◌||◌, List, length, nat_le, nat_lt, slice_index_or}
use Rattle.allocation.specs.declared.heading.Heading.{Heading}
use Rattle.allocation.specs.declared.line.Move.{Move}
use Rattle.allocation.specs.declared.line.Main.{Main}
use Rattle.allocation.specs.declared.line.Main.TheVariants.{Skip, Const, Binary, Call, Branch, Return}
use Rattle.allocation.specs.declared.line.Row.{Row}
use Rattle.allocation.specs.declared.item.Item.{Item}
use Rattle.allocation.specs.declared.item.Item.TheVariants as item

-- the two locations of a move, with r registers and s slots: at least one is a register
abbrev pub move_fits : ℕ → ℕ → Move → Bool
move_fits r s m = (nat_lt m.to (r + s) && nat_lt m.from (r + s)) && (nat_lt m.to r || nat_lt m.from r)

-- the numbers of a main line
abbrev pub main_line_fits : ℕ → Main → Bool
main_line_fits r Skip = true
main_line_fits r (Const l k) = nat_lt l r && nat_lt k (2 ^ 32)
main_line_fits r (Binary o l a b) = nat_lt l r && (nat_lt a r && nat_lt b r)
main_line_fits r (Call l h a b) = nat_lt l r && (nat_lt h 256 && (nat_lt a r && nat_lt b r))
main_line_fits r (Branch c a b) = nat_lt a r && nat_lt b r
main_line_fits r (Return a) = nat_lt a r

-- a row's main line, and its places in a table of `len` moves, in their order
abbrev pub row_fits : ℕ → ℕ → Row → Bool
row_fits r len row = main_line_fits r row.main && (nat_le row.ins row.outs && (nat_le row.outs row.alts && (nat_le row.alts row.end && nat_le row.end len)))

-- row n of the rows, and move n of the moves
abbrev pub row_at : List Row → ℕ → Row
row_at rows n = slice_index_or rows n (record { main = Skip; ins = 0; outs = 0; alts = 0; end = 0 })

abbrev pub move_at : List Move → ℕ → Move
move_at moves n = slice_index_or moves n (record { to = 0; from = 0 })

-- all rows fit a table of `len` moves
abbrev pub RowsFit : ℕ → ℕ → List Row → Type 0
RowsFit r len rows = (n : ℕ) → n < length rows → row_fits r len (row_at rows n) ≡ true

abbrev pub MovesFit : ℕ → ℕ → List Move → Type 0
MovesFit r s moves = (n : ℕ) → n < length moves → move_fits r s (move_at moves n) ≡ true

-- what a line of the text says
abbrev pub item_fits : Heading → Item → Bool
item_fits h (item.Move e m) = move_fits h.registers h.slots m
item_fits h (item.Main m) = main_line_fits h.registers m
