use Rattle.std.proofs.Common.{refl, rules}
use Rattle.service.proofs.making.CallStep.make.Goals as goal

pub returns-in-Load : goal.returns-in-Load
returns-in-Load g c = simp c.in-Load.is (_, refl, c.make.ensures)

pub returns-in-Offer : goal.returns-in-Offer
returns-in-Offer g c = simp c.in-Offer.is (_, refl, c.make-in-Offer.ensures)

pub returns-in-Place : goal.returns-in-Place
returns-in-Place g c = simp c.in-Place.is (_, refl, c.make-in-Place.ensures)

pub returns-in-Run : goal.returns-in-Run
returns-in-Run g c = simp c.in-Run.is (_, refl, search rules)

pub returns-in-Write : goal.returns-in-Write
returns-in-Write g c = simp c.in-Write.is (_, refl, c.make-in-Write.ensures)
