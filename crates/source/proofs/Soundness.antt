-- A node that is sound by the test is sound by the statement, and the other way.
use Rattle.std.proofs.Common.{◌≡◌, ℕ, zero, suc, ◌^◌, ◌<◌, Bool, true, ◌&&◌, ltb, List, [], ◌∷◌, length, arith}
use Rattle.std.specs.List.{AllByRecursion}
use Rattle.std.proofs.lemmas.Bool.{and_parts, and_from, ltb-true, lt-ltb}
use Rattle.source.specs.Nodes.{Sound, sound, AllSound, node_at}
use Rattle.source.specs.declared.node.Node.{Node}
use Rattle.source.specs.declared.node.Node.TheVariants.{Const, Mov, Binary, Call, Branch, Return}

more : (a b : ℕ) (r : Bool) → (ltb a b && r) ≡ true → (a < b) × (r ≡ true)
more a b r h = let p = and_parts (ltb a b) r h in (ltb-true a b p.0, p.1)

both : (a b : ℕ) (r : Bool) → a < b → r ≡ true → (ltb a b && r) ≡ true
both a b r h k = and_from (ltb a b) r (lt-ltb a b h) k

pub sound_is : (v n : ℕ) (node : Node) → sound v n node ≡ true → Sound v n node
sound_is v n (Const d k next) h = let p = more d v _ h in let q = more k (2 ^ 32) _ p.1 in (p.0, q.0, ltb-true next n q.1)
sound_is v n (Mov d a next) h = let p = more d v _ h in let q = more a v _ p.1 in (p.0, q.0, ltb-true next n q.1)
sound_is v n (Binary o d a b next) h = let p = more d v _ h in let q = more a v _ p.1 in let r = more b v _ q.1 in (p.0, q.0, r.0, ltb-true next n r.1)
sound_is v n (Call d g a b next) h =
    let p = more d v _ h in let q = more g 256 _ p.1 in let r = more a v _ q.1 in let s = more b v _ r.1 in (p.0, q.0, r.0, s.0, ltb-true next n s.1)
sound_is v n (Branch c a b taken other) h =
    let p = more a v _ h in let q = more b v _ p.1 in let r = more taken n _ q.1 in (p.0, q.0, r.0, ltb-true other n r.1)
sound_is v n (Return a) h = ltb-true a v h

pub is_sound : (v n : ℕ) (node : Node) → Sound v n node → sound v n node ≡ true
is_sound v n (Const d k next) h = both d v _ h.0 (both k (2 ^ 32) _ h.1 (lt-ltb next n h.2))
is_sound v n (Mov d a next) h = both d v _ h.0 (both a v _ h.1 (lt-ltb next n h.2))
is_sound v n (Binary o d a b next) h = both d v _ h.0 (both a v _ h.1 (both b v _ h.2 (lt-ltb next n h.3)))
is_sound v n (Call d g a b next) h = both d v _ h.0 (both g 256 _ h.1 (both a v _ h.2 (both b v _ h.3 (lt-ltb next n h.4))))
is_sound v n (Branch c a b taken other) h = both a v _ h.0 (both b v _ h.1 (both taken n _ h.2 (lt-ltb other n h.3)))
is_sound v n (Return a) h = lt-ltb a v h

pub all_sound : (v : ℕ) (nodes : List Node) → AllSound v nodes → (n : ℕ) → n < length nodes → Sound v (length nodes) (node_at nodes n)
all_sound v nodes s n h = sound_is v (length nodes) (node_at nodes n) (s n h)

-- what holds of each node of a list holds at each place
pub sound-at : (v n : ℕ) (nodes : List Node) → AllByRecursion (Sound v n) nodes → (i : ℕ) → i < length nodes → sound v n (node_at nodes i) ≡ true
sound-at v n [] all i h = absurd (omega arith)
sound-at v n (x ∷ xs) all zero h = is_sound v n x all.0
sound-at v n (x ∷ xs) all (suc i) h = sound-at v n xs all.1 i (omega arith)
