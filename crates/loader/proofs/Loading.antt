-- What a load that is granted leaves.
use Rattle.std.proofs.Common.{◌≡◌, ℕ, List, length, Ok, vec_items, sym, ap, ◌∙◌, subst}
use Rattle.source.specs.declared.heading.Heading.{Heading}
use Rattle.source.specs.declared.table.Table.{Table}
use Rattle.source.specs.Reading.{read_source}
use Rattle.source.specs.Tables.{nodes_in, source_in}
use Rattle.source.specs.Writing.{IsTextOf}
use Rattle.source.proofs.Soundness.{sound-at}
use Rattle.loader.specs.Live.{Ready, Loaded}
use Rattle.loader.specs.Load.{Granted}
use Rattle.loader.specs.declared.holder.Tables.{Tables}

-- the nodes `read`, then the tables `found` with what is live, then the same tables `held`
module _ (h : Heading) (bs : List ℕ) (read : Table) (found held : Tables) (g : ℕ) where
  ready : Ready (nodes_in read) h.parameters h.temporaries (vec_items found.live) g → found.nodes ≡ read → held ≡ found → Ready (nodes_in held.nodes) h.parameters h.temporaries (vec_items held.live) g
  ready r same is =
      subst (λ (t : Tables). Ready (nodes_in t.nodes) h.parameters h.temporaries (vec_items t.live) g) (sym is)
      (subst (λ (t : Table). Ready (nodes_in t) h.parameters h.temporaries (vec_items found.live) g) (sym same) r)

  table : found.nodes ≡ read → held ≡ found → read ≡ held.nodes
  table same is = sym (ap (λ (t : Tables). t.nodes) is ∙ same)

  pub loaded : IsTextOf bs (source_in h read) → Ready (nodes_in read) h.parameters h.temporaries (vec_items found.live) g → found.nodes ≡ read → held ≡ found
      → Loaded h (nodes_in held.nodes) (vec_items held.live)
  loaded exact r same is =
      let all = ready r same is in
      record {
        sound = subst (λ (t : Table). Rattle.source.specs.Nodes.AllSound h.temporaries (nodes_in t)) (table same is) (sound-at _ _ _ exact.0.sound);
        live = all.live;
        entry = all.entry;
      }

  pub counted : length (nodes_in read) ≡ h.nodes → found.nodes ≡ read → held ≡ found → length (nodes_in held.nodes) ≡ h.nodes
  counted count same is = subst (λ (t : Table). length (nodes_in t) ≡ h.nodes) (table same is) count

  pub granted : (counts : ℕ × ℕ × ℕ) → counts ≡ (h.temporaries, h.nodes, g) → read_source bs ≡ Ok (source_in h read) → length (nodes_in read) ≡ h.nodes → Ready (nodes_in read) h.parameters h.temporaries (vec_items found.live) g → found.nodes ≡ read → held ≡ found
      → Granted bs (source_in h held.nodes) (vec_items held.live) counts
  granted counts three text count r same is =
      let all = ready r same is in
      let long = counted count same is in
      record {
        read = text ∙ ap (λ (t : Table). Ok (source_in h t)) (table same is);
        live = all.live;
        entry = all.entry;
        is = three ∙ (λ i. (h.temporaries, sym long i, all.most i));
      }
