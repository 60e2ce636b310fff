use Rattle.std.proofs.Common.{◌≡◌, ℕ, ◌^◌, ◌<◌, length, get_or, refl, inl, inr, rules}
use Rattle.std.proofs.lemmas.Option.{MatchOption-at_some, MatchOption-at_none}
use Rattle.verdict.proofs.Asking.{finds_elsewhere, finds_overwritten}
use Rattle.verdict.proofs.questions.ask_result.Goals as goal

pub returns-in-Some : goal.returns-in-Some
returns-in-Some c =
    let row = c.args.set.now in
    let long : length row ≡ 64 = search rules in
    let fits : (k : ℕ) → get_or row k 0 < 2 ^ 64 = λ k. search rules in
    let f = finds_elsewhere row long fits c.args.assigned c.mask_of-result.result c.below-all.result c.args.m c.requires.at c.mask_of-result.ensures c.below-all.ensures c.allowing.result c.find_outside.result c.find_outside.ensures
    c.without.result c.without.ensures c.allowing.ensures in
    inl (record { equation = (c.in-Some.e.location, c.in-Some.e.temporary); first = MatchOption-at_some _ _ c.in-Some.e c.in-Some.is f; is = refl })

pub returns-in-Some-find_outside : goal.returns-in-Some-find_outside
returns-in-Some-find_outside c =
    let row = c.args.set.now in
    let long : length row ≡ 64 = search rules in
    let fits : (k : ℕ) → get_or row k 0 < 2 ^ 64 = λ k. search rules in
    let f = finds_elsewhere row long fits c.args.assigned c.mask_of-result.result c.below-all.result c.args.m c.requires.at c.mask_of-result.ensures c.below-all.ensures c.allowing.result c.find_outside.result c.find_outside.ensures
    c.without.result c.without.ensures c.allowing.ensures in
    let g = finds_overwritten row long fits c.args.assigned c.mask_of-result.result c.below-all.result c.args.m c.requires.at c.mask_of-result.ensures c.below-all.ensures c.allowing-2.result c.find_outside-2.result c.find_outside-2.ensures
    c.allowing-2.ensures in
    let e = c.in-Some-find_outside.e in
    inr (MatchOption-at_none _ _ c.in_default.is f, inl (record { equation = (e.location, e.temporary); first = MatchOption-at_some _ _ e c.in-Some-find_outside.is g; is = refl }))

pub returns : goal.returns
returns c =
    let row = c.args.set.now in
    let long : length row ≡ 64 = search rules in
    let fits : (k : ℕ) → get_or row k 0 < 2 ^ 64 = λ k. search rules in
    let f = finds_elsewhere row long fits c.args.assigned c.mask_of-result.result c.below-all.result c.args.m c.requires.at c.mask_of-result.ensures c.below-all.ensures c.allowing.result c.find_outside.result c.find_outside.ensures
    c.without.result c.without.ensures c.allowing.ensures in
    let g = finds_overwritten row long fits c.args.assigned c.mask_of-result.result c.below-all.result c.args.m c.requires.at c.mask_of-result.ensures c.below-all.ensures c.allowing-2.result c.find_outside-2.result c.find_outside-2.ensures
    c.allowing-2.ensures in
    (MatchOption-at_none _ _ c.in_default.is f, (MatchOption-at_none _ _ c.in_default-find_outside.is g, tt))
