-- What the check says of a text that was read is what the offer answers.
use Rattle.std.proofs.Common.{◌≡◌, ℕ, List, length, IfOk, Some, Ok, Err, Option, Result, ap, ◌∙◌, subst, inr}
use Rattle.std.specs.Option.{option_map}
use Rattle.refusal.specs.declared.Refusal.{Refusal}
use Rattle.source.specs.declared.heading.Heading.{Heading}
use Rattle.source.specs.declared.table.Table.{Table}
use Rattle.source.specs.Reading.{Source}
use Rattle.source.specs.Tables.{nodes_in, source_in}
use Rattle.allocation.specs.declared.tables.Tables.{Tables}
use Rattle.allocation.specs.Allocations.{allocation_of}
use Rattle.allocation.specs.Lines.{move_count}
use Rattle.reading.specs.Reading.{read_allocation}
use Rattle.equations.specs.Verdict.{Fits, Judged, Left}
use Rattle.offer.specs.Offers.{Reads, Offered}

-- what is checked, with the words of work memory before and after
pub record Verdict (s : Source) (t : Tables) (words words' : List ℕ) (r : Result ℕ Refusal) : Type 0 where
  pub verdict : Judged s (allocation_of t) words words' r
  pub count : IfOk r (λ n. n ≡ move_count (allocation_of t))
  pub memory : Left s (allocation_of t) words words'
  pub fits : Fits s (allocation_of t)

-- the same count, by another name
pub recounted : (r : Result ℕ Refusal) (a b : ℕ) → IfOk r (λ n. n ≡ a) → a ≡ b → IfOk r (λ n. n ≡ b)
recounted (Ok n) a b e q = e ∙ q
recounted (Err f) a b e q = tt

answered : (s : Source) (t : Tables) (bs words words' : List ℕ) (r : Result ℕ Refusal) → Reads s bs (allocation_of t) → Verdict s t words words' r → Offered (Some s) bs words (allocation_of t) words' r
answered s t bs words words' (Ok n) read v = record { read = read; fits = v.fits; accepted = v.verdict; left = v.memory; moves = v.count }
answered s t bs words words' (Err e) read v = inr (record { read = read; fits = v.fits; refused = v.verdict; left = v.memory })

-- a text that was read under the heading h
pub checked : (loaded : Option Heading) (h : Heading) (table checked-table : Table) (t checked-tables : Tables) (bs words words' : List ℕ) (r : Result ℕ Refusal) → Some h ≡ loaded → checked-table ≡ table → checked-tables ≡ t
    → length (nodes_in checked-table) ≡ h.nodes → read_allocation h.parameters h.nodes bs ≡ Ok (allocation_of t) → Verdict (source_in h checked-table) checked-tables words words' r
    → Offered (option_map (λ x. source_in x table) loaded) bs words (allocation_of t) words' r
checked loaded h table table' t t' bs words words' r is same-table same_tables long read v =
    let s = source_in h table' in
    let read' : Reads s bs (allocation_of t) = ap (λ (n : ℕ). read_allocation h.parameters n bs) long ∙ read in
    let v' = subst (λ (x : Tables). Verdict s x words words' r) same_tables v in
    subst (λ (o : Option Heading). Offered (option_map (λ x. source_in x table) o) bs words (allocation_of t) words' r) is
    (subst (λ (x : Table). Offered (Some (source_in h x)) bs words (allocation_of t) words' r) same-table (answered s t bs words words' r read' v'))
