-- Where lines may stand.
use Rattle.std.specs.Prelude.{ℕ, Bool, true, false}
use Rattle.allocation.specs.declared.line.Main.{Main}
use Rattle.allocation.specs.declared.line.Main.TheVariants as main
use Rattle.reading.specs.declared.stage.Stage.{Stage}
use Rattle.reading.specs.declared.stage.Stage.TheVariants.{Start, Before, Plain, Branch, Alternate, Return}

-- how many main lines are read whose row is not pushed
abbrev pub held : Stage → ℕ
held Start = 0
held Before = 0
held Plain = 1
held Branch = 1
held Alternate = 1
held Return = 1

-- `entry` moves come first
abbrev pub entry_stands : Stage → Bool
entry_stands Start = true
entry_stands Before = false
entry_stands Plain = false
entry_stands Branch = false
entry_stands Alternate = false
entry_stands Return = false

-- `out` moves follow a main line that is no return
abbrev pub out_stands : Stage → Bool
out_stands Start = false
out_stands Before = false
out_stands Plain = true
out_stands Branch = true
out_stands Alternate = false
out_stands Return = false

-- `alt` moves follow the `out` moves of a branch
abbrev pub alt_stands : Stage → Bool
alt_stands Start = false
alt_stands Before = false
alt_stands Plain = false
alt_stands Branch = true
alt_stands Alternate = true
alt_stands Return = false

-- the stage after a main line
abbrev pub main_stage : Main → Stage
main_stage main.Skip = Plain
main_stage (main.Const l k) = Plain
main_stage (main.Binary o l a b) = Plain
main_stage (main.Call l h a b) = Plain
main_stage (main.Branch c a b) = Branch
main_stage (main.Return a) = Return
