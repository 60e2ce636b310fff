-- How a source is written, and which sources a text can hold.
use Rattle.std.specs.Prelude.{◌≡◌, ℕ, ◌≤◌, List, [], ◌∷◌, map, length, Ok, codes, decimal}
use Rattle.std.specs.List.{AllByRecursion}
use Rattle.text.specs.Parts.{written}
use Rattle.source.specs.declared.node.Node.{Node}
use Rattle.source.specs.declared.node.Node.TheVariants.{Const, Mov, Binary, Call, Branch, Return}
use Rattle.source.specs.Nodes.{Sound}
use Rattle.source.specs.Words.{operation_name, condition_name}
use Rattle.source.specs.Reading.{Source, read_source}

-- the fields of the heading
abbrev pub heading_fields : Source → List (List ℕ)
heading_fields s = codes "source" ∷ decimal s.parameters ∷ decimal s.temporaries ∷ decimal (length s.nodes) ∷ []

-- the fields of a node's line
abbrev pub node_fields : Node → List (List ℕ)
node_fields (Const d k next) = codes "const" ∷ decimal d ∷ decimal k ∷ decimal next ∷ []
node_fields (Mov d a next) = codes "mov" ∷ decimal d ∷ decimal a ∷ decimal next ∷ []
node_fields (Binary o d a b next) = operation_name o ∷ decimal d ∷ decimal a ∷ decimal b ∷ decimal next ∷ []
node_fields (Call d h a b next) = codes "call" ∷ decimal d ∷ decimal h ∷ decimal a ∷ decimal b ∷ decimal next ∷ []
node_fields (Branch c a b taken other) = codes "br" ∷ condition_name c ∷ decimal a ∷ decimal b ∷ decimal taken ∷ decimal other ∷ []
node_fields (Return a) = codes "ret" ∷ decimal a ∷ []

-- a source, written out
unfoldable pub source_text : Source → List ℕ
source_text s = written (heading_fields s ∷ map node_fields s.nodes)

-- every number of the source is in range
pub record WellFormed (s : Source) : Type 0 where
  pub parameters_few : s.parameters ≤ 8
  pub parameters_within : s.parameters ≤ s.temporaries
  pub temporaries_some : 1 ≤ s.temporaries
  pub temporaries_few : s.temporaries ≤ 48
  pub nodes_some : 1 ≤ length s.nodes
  pub nodes_few : length s.nodes ≤ 256
  pub sound : AllByRecursion (Sound s.temporaries (length s.nodes)) s.nodes

-- the text is this source written out
abbrev pub IsTextOf : List ℕ → Source → Type 0
IsTextOf bs s = WellFormed s × (bs ≡ source_text s)

-- a text that is read as a source is that source written out
abbrev pub ReadIsWritten : Type 0
ReadIsWritten = (bs : List ℕ) (s : Source) → read_source bs ≡ Ok s → IsTextOf bs s

-- every source with its numbers in range, written out, is read as that source
abbrev pub WrittenIsRead : Type 0
WrittenIsRead = (s : Source) → WellFormed s → read_source (source_text s) ≡ Ok s
