-- The plain engine has one answer to each call, which follows from what it holds and what the call brings.
use Rattle.std.specs.Prelude.{◌≡◌, ℕ, Bool, List, Option, Result}
use Rattle.refusal.specs.declared.Refusal.{Refusal}
use Rattle.source.specs.Reading.{Source}
use Rattle.places.specs.declared.place.Place.{Place}
use Rattle.values.specs.Kinds.{Arithmetic}
use Rattle.values.specs.Hosts.{Answers}
use Rattle.machine.specs.declared.outcome.Entry.{Entry}
use Rattle.machine.specs.declared.outcome.Report.{Report}
use Rattle.engine.specs.Plain.{Standing, Plain}
use Rattle.engine.specs.Calls.{LoadMade, OfferMade, PlaceMade, RunMade, WriteMade}

pub record OneAnswerEach : Type 0 where
  pub load : (p q q' : Plain) (bs : List ℕ) (r r' : Result (ℕ × ℕ × ℕ) Refusal) → LoadMade p bs r q → LoadMade p bs r' q' → (r ≡ r') × (q ≡ q')
  pub offer : (p q q' : Plain) (bs words left left' : List ℕ) (r r' : Result ℕ Refusal) → OfferMade p bs words left r q → OfferMade p bs words left' r' q' → (r ≡ r') × (q ≡ q')
  pub place :
      (places : Source → (ℕ → ℕ → Bool) → ℕ → List Place) (p q q' : Plain) (R : ℕ) (words left left' : List ℕ) (r r' : Result ℕ Refusal) → PlaceMade places p R words left r q → PlaceMade places p R words left' r' q'
      → (r ≡ r') × (q ≡ q')
  pub write : (st : Option Standing) (at : ℕ) (was out out' : List ℕ) (r r' : Result ℕ Refusal) → WriteMade st at was r out → WriteMade st at was r' out' → (r ≡ r') × (out ≡ out')

-- all that a run answers and leaves
module _ {V S : Type 0} (K : Arithmetic V) (E : Answers S V) where
  pub record SameRun (r r' : Result (Report V) Refusal) (h h' : S) (cs cs' : List V) (l l' : List (Entry V)) : Type 0 where
    pub answer : r ≡ r'
    pub host : h ≡ h'
    pub cells : cs ≡ cs'
    pub list : l ≡ l'

  abbrev pub OneRun : Type 0
  OneRun =
      (st : Option Standing) (budget : ℕ) (args : List V) (h : S) (cs : List V) (l : List (Entry V)) (r r' : Result (Report V) Refusal) (h₁ h₂ : S) (cs₁ cs₂ : List V) (l₁ l₂ : List (Entry V))
      → RunMade K E budget args h cs l st r h₁ cs₁ l₁ → RunMade K E budget args h cs l st r' h₂ cs₂ l₂ → SameRun r r' h₁ h₂ cs₁ cs₂ l₁ l₂
