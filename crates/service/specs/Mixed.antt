-- A life whose calls are of any types: the first is made where p is held, and the rest where that call leads.
use Rattle.engine.specs.Plain.{Plain}

pub record ThenLived {C R : Type 0} (Made : Plain → C → C → Plain → Type 0) (Lived : Plain → R → R → Plain → Type 0) (p : Plain) (before after : C) (rest-before rest-after : R) (q : Plain) : Type 0 where
  pub between : Plain
  pub first : Made p before after between
  pub rest : Lived between rest-before rest-after q
