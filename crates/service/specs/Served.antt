-- What a life of an engine is: calls made one after the other, each where those before it have led.
use Rattle.std.specs.Prelude.{◌≡◌, ℕ, Bool, List, [], ◌∷◌, Some, None, vec_items, Option}
use Rattle.source.specs.Reading.{Source}
use Rattle.places.specs.declared.place.Place as place
use Rattle.values.specs.Kinds.{Arithmetic}
use Rattle.values.specs.Hosts.{Answers}
use Rattle.engine.specs.Plain.{Plain, new}
use Rattle.engine.specs.Calls.{LoadMade, OfferMade, PlaceMade, RunMade, WriteMade}
use Rattle.service.specs.declared.call.Load as load
use Rattle.service.specs.declared.call.Offer as offer
use Rattle.service.specs.declared.call.Place as placement
use Rattle.service.specs.declared.call.Run as run
use Rattle.service.specs.declared.call.Write as write
use Rattle.service.specs.declared.call.Call as call
use Rattle.service.specs.declared.call.Call.TheVariants.{Load, Offer, Place, Run, Write}

-- a call has its answer, and the answer is so
abbrev pub WithAnswer : {A : Type 0} → Option A → (A → Type 0) → Type 0
WithAnswer None P = ⊥
WithAnswer (Some x) P = P x

-- each call before it is made (b) and after (a), where p is held before and q after
pub record LoadServed (p : Plain) (b a : load.Load) (q : Plain) : Type 0 where
  pub text : vec_items a.text ≡ vec_items b.text
  pub answer : WithAnswer a.answer (λ r. LoadMade p (vec_items b.text) r q)

pub record OfferServed (p : Plain) (b a : offer.Offer) (q : Plain) : Type 0 where
  pub text : vec_items a.text ≡ vec_items b.text
  pub answer : WithAnswer a.answer (λ r. OfferMade p (vec_items b.text) (vec_items b.memory) (vec_items a.memory) r q)

pub record PlaceServed {Z : Type 0} (places : Z → Source → (ℕ → ℕ → Bool) → ℕ → List place.Place) (p : Plain) (b a : placement.Place Z) (q : Plain) : Type 0 where
  pub placer : a.placer ≡ b.placer
  pub registers : a.registers ≡ b.registers
  pub answer : WithAnswer a.answer (λ r. PlaceMade (places b.placer) p b.registers (vec_items b.memory) (vec_items a.memory) r q)

-- the host's state and its lent references (lent), and the frame's cells, are those that its kind means
module _ {V S H F : Type 0} (K : Arithmetic V) (E : Answers S V) (state : H → S) (lent : H → List ℕ) (cells : F → List V) where
  pub record RunServed (p : Plain) (b a : run.Run V H F) (q : Plain) : Type 0 where
    pub budget : a.budget ≡ b.budget
    pub args : vec_items a.args ≡ vec_items b.args
    pub same_lent : lent a.host ≡ lent b.host
    pub answer : WithAnswer a.answer (λ r. RunMade K E b.budget (vec_items b.args) (state b.host) (cells b.frame) (vec_items b.list) p.standing r (state a.host) (cells a.frame) (vec_items a.list))
    pub held : q ≡ p

pub record WriteServed (p : Plain) (b a : write.Write) (q : Plain) : Type 0 where
  pub at : a.at ≡ b.at
  pub answer : WithAnswer a.answer (λ r. WriteMade p.standing b.at (vec_items b.buffer) r (vec_items a.buffer))
  pub held : q ≡ p

-- the calls of a list, from p on, after which q is held
module _ {C : Type 0} (Made : Plain → C → C → Plain → Type 0) where
  abbrev pub Lived : Plain → List C → List C → Plain → Type 0
  Lived p [] [] q = q ≡ p
  Lived p [] (a ∷ after) q = ⊥
  Lived p (b ∷ before) [] q = ⊥
  Lived p (b ∷ before) (a ∷ after) q = (m : Plain) × Made p b a m × Lived m before after q

module _ {V S H F Z : Type 0} (K : Arithmetic V) (E : Answers S V) (state : H → S) (lent : H → List ℕ) (cells : F → List V) (places : Z → Source → (ℕ → ℕ → Bool) → ℕ → List place.Place) where
  -- a call of any of the five
  abbrev pub Made : Plain → call.Call V H F Z → call.Call V H F Z → Plain → Type 0
  Made p (Load b) after q = (a : load.Load) × (after ≡ Load a) × LoadServed p b a q
  Made p (Offer b) after q = (a : offer.Offer) × (after ≡ Offer a) × OfferServed p b a q
  Made p (Place b) after q = (a : placement.Place Z) × (after ≡ Place a) × PlaceServed places p b a q
  Made p (Run b) after q = (a : run.Run V H F) × (after ≡ Run a) × RunServed K E state lent cells p b a q
  Made p (Write b) after q = (a : write.Write) × (after ≡ Write a) × WriteServed p b a q

  -- a whole life, from a new engine on
  pub record Served (before after : List (call.Call V H F Z)) : Type 0 where
    pub last : Plain
    pub lived : Lived Made new before after last
