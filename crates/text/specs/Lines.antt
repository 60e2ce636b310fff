-- What is left of a text and of a line.
use Rattle.std.specs.Prelude.{◌≡◌, ℕ, ◌+◌, List, [], ◌∷◌, length, Some, None, Option, MatchOption}
use Rattle.std.specs.Borrow.{Bor}
use Rattle.std.specs.Iterator.{Count, item_count}
use Rattle.text.specs.Parts.{lines_of, fields_of}
use Rattle.text.specs.Fields.{shape, shape_of, bytes, start_of}
use Rattle.text.specs.declared.lines.Line.{Line}
use Rattle.text.specs.declared.lines.Lines.{Lines}
use Rattle.text.specs.declared.lines.Fields.{Fields}
use Rattle.text.specs.declared.fields.Field.{Field}

abbrev pub lines_left : Lines → List (List ℕ)
lines_left l = lines_of l.rest.now

abbrev pub line_count : Lines → Count
line_count = item_count lines_left

-- a call gives the first line that is left, with its place and its number, and leaves the others up to the same end, or finds none
abbrev pub LineSteps : Lines → Option Line → Lines → Type 0
LineSteps s r t = MatchOption r ((lines_left s ≡ []) × (t ≡ s))
    (λ l. (lines_left s ≡ l.bytes.now ∷ lines_left t) × (l.start ≡ s.start) × (l.number ≡ s.number) × (t.number ≡ s.number + 1) × (t.start + length t.rest.now ≡ s.start + length s.rest.now))

abbrev pub fields_in : Option (Bor (List ℕ)) → List (List ℕ)
fields_in None = []
fields_in (Some r) = fields_of r.now

abbrev pub fields_left : Fields → List (List ℕ)
fields_left l = fields_in l.rest

abbrev pub field_count : Fields → Count
field_count = item_count fields_left

-- a call gives the first field that is left, with its place, and leaves the others, or finds none
abbrev pub FieldSteps : Fields → Option Field → Fields → Type 0
FieldSteps s r t = MatchOption r ((fields_left s ≡ []) × (t ≡ s))
    (λ f. (fields_left s ≡ bytes f ∷ fields_left t) × (shape f ≡ shape_of (bytes f)) × (start_of f ≡ s.start) × (t.start ≡ s.start + length (bytes f) + 1))
