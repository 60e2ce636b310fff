-- Places by colouring: which temporaries conflict, in which order they are removed, and which register each takes.
use Rattle.std.specs.Prelude.{ℕ, zero, suc, ◌-◌, Bool, false, cond, not, ◌&&◌, ◌||◌, List, length, replicate, Some, None, Option, ◌==◌, nat_lt, slice_index, slice_index_or, slice_set}
use Rattle.sets.specs.Masks.{bit, count, names}
use Rattle.source.specs.Nodes.{node_at}
use Rattle.source.specs.Reading.{Source}
use Rattle.source.specs.declared.node.Node.{Node}
use Rattle.loader.specs.Live.{out_of, is_result}
use Rattle.places.specs.declared.place.Place.{Place}
use Rattle.places.specs.declared.place.Place.TheVariants.{Home, Register}
use Rattle.places.specs.Places.{copied}

-- some number below n passes the test p
abbrev pub some : ℕ → (ℕ → Bool) → Bool
some zero p = false
some (suc n) p = some n p || p n

-- v where the test says so
abbrev pub only : Bool → ℕ → Option ℕ
only b v = cond b (Some v) None

abbrev pub or_else : Option ℕ → Option ℕ → Option ℕ
or_else None y = y
or_else (Some x) y = Some x

-- the lowest number below n that passes the test p
abbrev pub lowest_of : ℕ → (ℕ → Bool) → Option ℕ
lowest_of zero p = None
lowest_of (suc n) p = or_else (lowest_of n p) (only (p n) n)

-- the best of those before n, or n where it passes and is of greater degree
abbrev pub better : (ℕ → ℕ) → Bool → ℕ → Option ℕ → Option ℕ
better degrees b n None = only b n
better degrees b n (Some x) = cond (b && nat_lt (degrees x) (degrees n)) (Some n) (Some x)

-- of the numbers below n that pass, the lowest of greatest degree
abbrev pub busiest_of : (ℕ → ℕ) → ℕ → (ℕ → Bool) → Option ℕ
busiest_of degrees zero p = None
busiest_of degrees (suc n) p = better degrees (p n) n (busiest_of degrees n p)

-- ---- conflicts, by what is live (L)

-- d is the node's result, and v is live out of the node and not the origin of a `mov`: the two differ in place
abbrev pub demands : (ℕ → ℕ → Bool) → Node → ℕ → ℕ → Bool
demands L node d v = is_result node d && (out_of L node v && not (names (copied node) v))

-- at some node
abbrev pub demanded : Source → (ℕ → ℕ → Bool) → ℕ → ℕ → Bool
demanded s L d v = some (length s.nodes) (λ n. demands L (node_at s.nodes n) d v)

-- v is a parameter live into node 0: any two of these differ in place
abbrev pub arrives : Source → (ℕ → ℕ → Bool) → ℕ → Bool
arrives s L v = nat_lt v s.parameters && L 0 v

-- u and v are two, of which one demands to differ from the other, or which both arrive
abbrev pub apart : (ℕ → ℕ → Bool) → (ℕ → Bool) → ℕ → ℕ → Bool
apart demand arrive u v = ((demand u v || demand v u) || (arrive u && arrive v)) && not (v == u)

-- u and v must differ in place
abbrev pub conflict : Source → (ℕ → ℕ → Bool) → ℕ → ℕ → Bool
conflict s L = apart (demanded s L) (arrives s L)

-- v is live into some node, or the result of one
abbrev pub used : Source → (ℕ → ℕ → Bool) → ℕ → Bool
used s L v = some (length s.nodes) (λ n. L n v || is_result (node_at s.nodes n) v)

-- the family that a row of words holds, a word for each temporary
abbrev pub rows : List ℕ → ℕ → ℕ → Bool
rows words u v = bit (slice_index words u) v

-- ---- colouring V temporaries with K registers

-- the place is register r
abbrev pub holds : Place → ℕ → Bool
holds Home r = false
holds (Register x) r = x == r

-- a register, if there is one, else home
abbrev pub to_place : Option ℕ → Place
to_place (Some r) = Register r
to_place None = Home

-- those left, once v is removed
abbrev pub less : (ℕ → Bool) → ℕ → ℕ → Bool
less left v u = left u && not (u == v)

-- how many of those left conflict with v
abbrev pub degree : ℕ → (ℕ → ℕ → Bool) → (ℕ → Bool) → ℕ → ℕ
degree V conf left v = count V (λ u. conf v u && left u)

-- a temporary of the set holds register r
abbrev pub held : ℕ → (ℕ → Bool) → List Place → ℕ → Bool
held V near ps r = some V (λ u. near u && holds (slice_index_or ps u Home) r)

module _ (V K : ℕ) (conf : ℕ → ℕ → Bool) where
  -- left, and of degree under K
  abbrev pub under : (ℕ → Bool) → ℕ → Bool
  under left v = left v && nat_lt (degree V conf left v) K

  -- the next to remove: the lowest of degree under K, else the lowest of greatest degree
  abbrev pub next : (ℕ → Bool) → Option ℕ
  next left = or_else (lowest_of V (under left)) (busiest_of (degree V conf left) V left)

  -- the lowest register that no temporary in conflict with v holds, else home
  abbrev pub chosen : List Place → ℕ → Place
  chosen ps v = to_place (lowest_of K (λ r. not (held V (conf v) ps r)))

  abbrev pub after : Option ℕ → (ℕ → List Place) → List Place
  after None rest = replicate V Home
  after (Some v) rest = slice_set (rest v) v (chosen (rest v) v)

  -- one is removed, those left get their places, then it takes its own; at most `turns` are removed
  abbrev pub coloured : ℕ → (ℕ → Bool) → List Place
  coloured zero left = replicate V Home
  coloured (suc turns) left = after (next left) (λ v. coloured turns (less left v))

-- the places by colouring with R - 2 registers; temporaries that are not used stay at home
abbrev pub colouring : Source → (ℕ → ℕ → Bool) → ℕ → List Place
colouring s L R = coloured s.temporaries (R - 2) (conflict s L) s.temporaries (used s L)
