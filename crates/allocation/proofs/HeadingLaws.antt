-- Reading and writing a heading undo each other.
use Rattle.std.proofs.Common.{◌≡◌, ℕ, ◌^◌, ◌<◌, ◌≤◌, min, List, [], ◌∷◌, map, Some, codes, decimal, sym, ap, ◌∙◌, subst, arith}
use native.Mathlib.Nat.{min-le_left, min-le_right, min-eq_left}
use Rattle.std.specs.Option.{option_map}
use Rattle.text.specs.Fields.{Shape, shape_of, number_between, after_title, and_then}
use Rattle.text.proofs.TextLaws.{AllLack, Plain}
use Rattle.text.proofs.FieldLaws.{after_title_is, mapped_some, between_inverse}
use Rattle.text.proofs.Saying.{and_then-some}
use Rattle.allocation.specs.declared.heading.Heading.{Heading}
use Rattle.allocation.specs.Headings.{heading_from, heading_of}
use Rattle.allocation.specs.Rendering.{heading_fields}

pub record HeadIn (p n : ℕ) (h : Heading) : Type 0 where
  pub registers_low : 3 ≤ h.registers
  pub registers_high : h.registers ≤ 16
  pub slots_low : p ≤ h.slots
  pub slots_high : h.slots ≤ 48
  pub few_nodes : n ≤ 256

module _ (p n : ℕ) where
  low_min : min n 256 < 10 ^ 10
  low_min = omega (arith, min-le_right n 256)

  module _ (h : Heading) where
    pub heading_read : (fs : List (List ℕ)) → heading_of p n (map shape_of fs) ≡ Some h → (fs ≡ heading_fields h.registers h.slots n) × HeadIn p n h
    unfolding heading_of
    heading_read fs e =
        let t = and_then-some (after_title (codes "alloc") (map shape_of fs)) _ h e in
        let (a, b, c, is, r) = after_title_is (codes "alloc") fs t.0 t.1 in
        let k : heading_from p n (shape_of a) (shape_of b) (shape_of c) ≡ Some h = ap (λ (r : Shape × Shape × Shape). heading_from p n r.0 r.1 r.2) (sym r) ∙ t.2 in
        let x = and_then-some (number_between 3 16 (shape_of a)) _ h k in
        let y = and_then-some (number_between p 48 (shape_of b)) _ h x.2 in
        let z = mapped_some _ (number_between n (min n 256) (shape_of c)) h y.2 in
        let x' = (between_inverse 3 16 (omega arith)).is a x.0 x.1 in
        let y' = (between_inverse p 48 (omega arith)).is b y.0 y.1 in
        let z' = (between_inverse n (min n 256) low_min).is c z.0 z.1 in
        let lo : n ≤ z.0 = z'.1.0 in
        let hi : z.0 ≤ min n 256 = z'.1.1 in
        let same : z.0 ≡ n = omega (arith, min-le_left n 256) in
        subst (λ g. (fs ≡ heading_fields g.registers g.slots n) × HeadIn p n g) z.2 (
          is ∙ (λ i. codes "alloc" ∷ x'.0 i ∷ y'.0 i ∷ (z'.0 ∙ ap decimal same) i ∷ []),
          record { registers_low = x'.1.0; registers_high = x'.1.1; slots_low = y'.1.0; slots_high = y'.1.1; few_nodes = omega (arith, min-le_right n 256) },
        )

    module _ (k : HeadIn p n h) where
      pub heading_written : heading_of p n (map shape_of (heading_fields h.registers h.slots n)) ≡ Some h
      unfolding heading_of
      heading_written =
          let m : min n 256 ≡ n = min-eq_left k.few_nodes in
          λ i. and_then ((between_inverse 3 16 (omega arith)).reads h.registers (k.registers_low, k.registers_high) i) (λ x.
          and_then ((between_inverse p 48 (omega arith)).reads h.slots (k.slots_low, k.slots_high) i) (λ y. option_map (λ _. record { registers = x; slots = y }) ((between_inverse n (min n 256) low_min).reads n (omega arith, omega arith) i)))

      heading_lacks : (b : ℕ) → b < 48 → AllLack b (heading_fields h.registers h.slots n)
      heading_lacks b low = (
        omega arith,
        (
          (between_inverse 3 16 (omega arith)).lacks b low h.registers (k.registers_low, k.registers_high),
          ((between_inverse p 48 (omega arith)).lacks b low h.slots (k.slots_low, k.slots_high), ((between_inverse n n (omega (arith, k.few_nodes))).lacks b low n (omega arith, omega arith), tt)),
        ),
      )

      pub heading_plain : Plain (heading_fields h.registers h.slots n)
      heading_plain = record { some = omega arith; no_tab = heading_lacks 9 (omega arith); no_end = heading_lacks 10 (omega arith) }
