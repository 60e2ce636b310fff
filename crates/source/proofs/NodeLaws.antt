-- Reading and writing a node's line undo each other.
use Rattle.std.proofs.Common.{◌≡◌, ℕ, ◌^◌, ◌<◌, ◌≤◌, List, [], ◌∷◌, map, length, Some, Ok, decimal, sym, refl, ◌∙◌, subst, arith}
use Rattle.std.specs.Option.{option_map, ok_or}
use Rattle.text.specs.Fields.{Shape, shape_of, number_below, word_in, by_first, and_then}
use Rattle.text.specs.declared.fields.Fault.TheVariants as fault
use Rattle.text.proofs.FieldLaws.{Inverse, below_inverse, mapped_some, first_written, first_read}
use Rattle.text.proofs.Saying.{and_then-some}
use Rattle.source.specs.declared.heading.Heading.{Heading}
use Rattle.source.specs.declared.node.Operation.{Operation}
use Rattle.source.specs.declared.node.Node.{Node}
use Rattle.source.specs.declared.node.Node.TheVariants as node
use Rattle.source.specs.declared.words.Opcode.{Opcode}
use Rattle.source.specs.declared.words.Opcode.TheVariants.{Const, Mov, Binary, Call, Branch, Return}
use Rattle.source.specs.Nodes.{Sound}
use Rattle.source.specs.Words.{opcode_name, condition_name, opcodes, conditions}
use Rattle.source.specs.Reading.{arity, const_of, mov_of, binary_of, call_of, branch_of, return_of, operands_of}
use Rattle.source.specs.Writing.{node_fields}
use Rattle.source.proofs.Wording.{opcode_inverse, condition_inverse}

-- the numbers of the heading are small
pub record Few (h : Heading) : Type 0 where
  pub temporaries : h.temporaries ≤ 48
  pub nodes : h.nodes ≤ 256

module _ (h : Heading) (few : Few h) where
  temporaries : Inverse (number_below h.temporaries) decimal (λ n. n < h.temporaries)
  temporaries = below_inverse h.temporaries (omega (arith, few.temporaries))

  successors : Inverse (number_below h.nodes) decimal (λ n. n < h.nodes)
  successors = below_inverse h.nodes (omega (arith, few.nodes))

  values : Inverse (number_below (2 ^ 32)) decimal (λ n. n < 2 ^ 32)
  values = below_inverse (2 ^ 32) (omega arith)

  functions : Inverse (number_below 256) decimal (λ n. n < 256)
  functions = below_inverse 256 (omega arith)

  -- written, then read

  lead : (o : Opcode) (fs : List Shape) → length fs ≡ arity o → by_first opcode_name opcodes arity (operands_of h) (shape_of (opcode_name o) ∷ fs) ≡ ok_or (operands_of h o fs) fault.Field
  lead = first_written opcode_name opcodes arity (operands_of h) opcode_inverse

  abbrev num : ℕ → Shape
  num n = shape_of (decimal n)

  pub node_written : (n : Node) → Sound h.temporaries h.nodes n → by_first opcode_name opcodes arity (operands_of h) (map shape_of (node_fields n)) ≡ Ok n
  node_written (node.Const d k next) s =
      lead Const (num d ∷ num k ∷ num next ∷ []) refl
      ∙ (λ i. ok_or (and_then (temporaries.reads d s.0 i) (λ x. and_then (values.reads k s.1 i) (λ y. option_map (λ z. node.Const x y z) (successors.reads next s.2 i)))) fault.Field)
  node_written (node.Mov d a next) s =
      lead Mov (num d ∷ num a ∷ num next ∷ []) refl
      ∙ (λ i. ok_or (and_then (temporaries.reads d s.0 i) (λ x. and_then (temporaries.reads a s.1 i) (λ y. option_map (λ z. node.Mov x y z) (successors.reads next s.2 i)))) fault.Field)
  node_written (node.Binary o d a b next) s =
      lead (Binary o) (num d ∷ num a ∷ num b ∷ num next ∷ []) refl
      ∙ (λ i. ok_or (and_then (temporaries.reads d s.0 i) (λ x. and_then (temporaries.reads a s.1 i) (λ y. and_then (temporaries.reads b s.2 i) (λ z. option_map (λ m. node.Binary o x y z m) (successors.reads next s.3 i))))) fault.Field)
  node_written (node.Call d g a b next) s =
      lead Call (num d ∷ num g ∷ num a ∷ num b ∷ num next ∷ []) refl
      ∙ (λ i. ok_or (and_then (temporaries.reads d s.0 i) (λ x. and_then (functions.reads g s.1 i) (λ f. and_then (temporaries.reads a s.2 i) (λ y. and_then (temporaries.reads b s.3 i) (λ z. option_map (λ m. node.Call x f y z m) (successors.reads next s.4 i)))))) fault.Field)
  node_written (node.Branch c a b taken other) s =
      lead Branch (shape_of (condition_name c) ∷ num a ∷ num b ∷ num taken ∷ num other ∷ []) refl
      ∙ (λ i. ok_or (and_then (condition_inverse.reads c tt i) (λ t. and_then (temporaries.reads a s.0 i) (λ y. and_then (temporaries.reads b s.1 i) (λ z. and_then (successors.reads taken s.2 i) (λ m. option_map (λ n. node.Branch t y z m n) (successors.reads other s.3 i)))))) fault.Field)
  node_written (node.Return a) s = lead Return (num a ∷ []) refl ∙ (λ i. ok_or (option_map (λ y. node.Return y) (temporaries.reads a s i)) fault.Field)

  -- read, then written

  -- the fields fs are those of the node n, whose numbers are in range
  abbrev pub Says : List (List ℕ) → Node → Type 0
  Says fs n = (fs ≡ node_fields n) × Sound h.temporaries h.nodes n

  module _ (n : Node) where
    const_is : (d k m : List ℕ) → const_of h (shape_of d) (shape_of k) (shape_of m) ≡ Some n → Says (opcode_name Const ∷ d ∷ k ∷ m ∷ []) n
    const_is d k m e =
        let p = and_then-some (number_below h.temporaries (shape_of d)) _ n e in
        let q = and_then-some (number_below (2 ^ 32) (shape_of k)) _ n p.2 in
        let r = mapped_some _ (number_below h.nodes (shape_of m)) n q.2 in
        let x = temporaries.is d p.0 p.1 in
        let y = values.is k q.0 q.1 in
        let z = successors.is m r.0 r.1 in
        subst (Says (opcode_name Const ∷ d ∷ k ∷ m ∷ [])) r.2 ((λ i. opcode_name Const ∷ x.0 i ∷ y.0 i ∷ z.0 i ∷ []), (x.1, y.1, z.1))

    mov_is : (d a m : List ℕ) → mov_of h (shape_of d) (shape_of a) (shape_of m) ≡ Some n → Says (opcode_name Mov ∷ d ∷ a ∷ m ∷ []) n
    mov_is d a m e =
        let p = and_then-some (number_below h.temporaries (shape_of d)) _ n e in
        let q = and_then-some (number_below h.temporaries (shape_of a)) _ n p.2 in
        let r = mapped_some _ (number_below h.nodes (shape_of m)) n q.2 in
        let x = temporaries.is d p.0 p.1 in
        let y = temporaries.is a q.0 q.1 in
        let z = successors.is m r.0 r.1 in
        subst (Says (opcode_name Mov ∷ d ∷ a ∷ m ∷ [])) r.2 ((λ i. opcode_name Mov ∷ x.0 i ∷ y.0 i ∷ z.0 i ∷ []), (x.1, y.1, z.1))

    binary_is : (o : Operation) (d a b m : List ℕ) → binary_of h o (shape_of d) (shape_of a) (shape_of b) (shape_of m) ≡ Some n → Says (opcode_name (Binary o) ∷ d ∷ a ∷ b ∷ m ∷ []) n
    binary_is o d a b m e =
        let p = and_then-some (number_below h.temporaries (shape_of d)) _ n e in
        let q = and_then-some (number_below h.temporaries (shape_of a)) _ n p.2 in
        let t = and_then-some (number_below h.temporaries (shape_of b)) _ n q.2 in
        let r = mapped_some _ (number_below h.nodes (shape_of m)) n t.2 in
        let x = temporaries.is d p.0 p.1 in
        let y = temporaries.is a q.0 q.1 in
        let w = temporaries.is b t.0 t.1 in
        let z = successors.is m r.0 r.1 in
        subst (Says (opcode_name (Binary o) ∷ d ∷ a ∷ b ∷ m ∷ [])) r.2 ((λ i. opcode_name (Binary o) ∷ x.0 i ∷ y.0 i ∷ w.0 i ∷ z.0 i ∷ []), (x.1, y.1, w.1, z.1))

    call_is : (d g a b m : List ℕ) → call_of h (shape_of d) (shape_of g) (shape_of a) (shape_of b) (shape_of m) ≡ Some n → Says (opcode_name Call ∷ d ∷ g ∷ a ∷ b ∷ m ∷ []) n
    call_is d g a b m e =
        let p = and_then-some (number_below h.temporaries (shape_of d)) _ n e in
        let u = and_then-some (number_below 256 (shape_of g)) _ n p.2 in
        let q = and_then-some (number_below h.temporaries (shape_of a)) _ n u.2 in
        let t = and_then-some (number_below h.temporaries (shape_of b)) _ n q.2 in
        let r = mapped_some _ (number_below h.nodes (shape_of m)) n t.2 in
        let x = temporaries.is d p.0 p.1 in
        let v = functions.is g u.0 u.1 in
        let y = temporaries.is a q.0 q.1 in
        let w = temporaries.is b t.0 t.1 in
        let z = successors.is m r.0 r.1 in
        subst (Says (opcode_name Call ∷ d ∷ g ∷ a ∷ b ∷ m ∷ [])) r.2 ((λ i. opcode_name Call ∷ x.0 i ∷ v.0 i ∷ y.0 i ∷ w.0 i ∷ z.0 i ∷ []), (x.1, v.1, y.1, w.1, z.1))

    branch_is : (c a b l m : List ℕ) → branch_of h (shape_of c) (shape_of a) (shape_of b) (shape_of l) (shape_of m) ≡ Some n → Says (opcode_name Branch ∷ c ∷ a ∷ b ∷ l ∷ m ∷ []) n
    branch_is c a b l m e =
        let p = and_then-some (word_in condition_name conditions (shape_of c)) _ n e in
        let q = and_then-some (number_below h.temporaries (shape_of a)) _ n p.2 in
        let t = and_then-some (number_below h.temporaries (shape_of b)) _ n q.2 in
        let u = and_then-some (number_below h.nodes (shape_of l)) _ n t.2 in
        let r = mapped_some _ (number_below h.nodes (shape_of m)) n u.2 in
        let x = condition_inverse.is c p.0 p.1 in
        let y = temporaries.is a q.0 q.1 in
        let w = temporaries.is b t.0 t.1 in
        let v = successors.is l u.0 u.1 in
        let z = successors.is m r.0 r.1 in
        subst (Says (opcode_name Branch ∷ c ∷ a ∷ b ∷ l ∷ m ∷ [])) r.2 ((λ i. opcode_name Branch ∷ x.0 i ∷ y.0 i ∷ w.0 i ∷ v.0 i ∷ z.0 i ∷ []), (y.1, w.1, v.1, z.1))

    return_is : (a : List ℕ) → return_of h (shape_of a) ≡ Some n → Says (opcode_name Return ∷ a ∷ []) n
    return_is a e =
        let r = mapped_some _ (number_below h.temporaries (shape_of a)) n e in
        let z = temporaries.is a r.0 r.1 in
        subst (Says (opcode_name Return ∷ a ∷ [])) r.2 ((λ i. opcode_name Return ∷ z.0 i ∷ []), z.1)

    -- the fields after the word, of which there are as many as it wants
    operands_are : (o : Opcode) (fs : List (List ℕ)) → length fs ≡ arity o → operands_of h o (map shape_of fs) ≡ Some n → Says (opcode_name o ∷ fs) n
    operands_are Const (d ∷ k ∷ m ∷ []) l e = const_is d k m e
    operands_are Const [] l e = absurd (omega arith)
    operands_are Const (d ∷ []) l e = absurd (omega arith)
    operands_are Const (d ∷ k ∷ []) l e = absurd (omega arith)
    operands_are Const (d ∷ k ∷ m ∷ x ∷ fs) l e = absurd (omega arith)
    operands_are Mov (d ∷ a ∷ m ∷ []) l e = mov_is d a m e
    operands_are Mov [] l e = absurd (omega arith)
    operands_are Mov (d ∷ []) l e = absurd (omega arith)
    operands_are Mov (d ∷ a ∷ []) l e = absurd (omega arith)
    operands_are Mov (d ∷ a ∷ m ∷ x ∷ fs) l e = absurd (omega arith)
    operands_are (Binary o) (d ∷ a ∷ b ∷ m ∷ []) l e = binary_is o d a b m e
    operands_are (Binary o) [] l e = absurd (omega arith)
    operands_are (Binary o) (d ∷ []) l e = absurd (omega arith)
    operands_are (Binary o) (d ∷ a ∷ []) l e = absurd (omega arith)
    operands_are (Binary o) (d ∷ a ∷ b ∷ []) l e = absurd (omega arith)
    operands_are (Binary o) (d ∷ a ∷ b ∷ m ∷ x ∷ fs) l e = absurd (omega arith)
    operands_are Call (d ∷ g ∷ a ∷ b ∷ m ∷ []) l e = call_is d g a b m e
    operands_are Call [] l e = absurd (omega arith)
    operands_are Call (d ∷ []) l e = absurd (omega arith)
    operands_are Call (d ∷ g ∷ []) l e = absurd (omega arith)
    operands_are Call (d ∷ g ∷ a ∷ []) l e = absurd (omega arith)
    operands_are Call (d ∷ g ∷ a ∷ b ∷ []) l e = absurd (omega arith)
    operands_are Call (d ∷ g ∷ a ∷ b ∷ m ∷ x ∷ fs) l e = absurd (omega arith)
    operands_are Branch (c ∷ a ∷ b ∷ j ∷ m ∷ []) l e = branch_is c a b j m e
    operands_are Branch [] l e = absurd (omega arith)
    operands_are Branch (c ∷ []) l e = absurd (omega arith)
    operands_are Branch (c ∷ a ∷ []) l e = absurd (omega arith)
    operands_are Branch (c ∷ a ∷ b ∷ []) l e = absurd (omega arith)
    operands_are Branch (c ∷ a ∷ b ∷ j ∷ []) l e = absurd (omega arith)
    operands_are Branch (c ∷ a ∷ b ∷ j ∷ m ∷ x ∷ fs) l e = absurd (omega arith)
    operands_are Return (a ∷ []) l e = return_is a e
    operands_are Return [] l e = absurd (omega arith)
    operands_are Return (a ∷ x ∷ fs) l e = absurd (omega arith)

    pub node_read : (fs : List (List ℕ)) → by_first opcode_name opcodes arity (operands_of h) (map shape_of fs) ≡ Ok n → Says fs n
    node_read fs e =
        let r = first_read opcode_name opcodes arity (operands_of h) opcode_inverse fs n e in
        subst (λ gs. Says gs n) (sym r.is) (operands_are r.leader r.rest r.long r.read)
