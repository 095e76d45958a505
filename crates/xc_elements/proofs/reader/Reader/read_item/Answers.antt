use Rattle.std.proofs.Common.{◌≡◌, ◌⊎◌, ◌∷◌, List, Bool, false, inl, inr, refl, sym, subst}
use Rattle.xc_elements.specs.Items.{Meaning, Declaration, Comment, Instruction}
use Rattle.xc_elements.specs.Steps.Kept.{Kept}
use Rattle.xc_elements.specs.Namespaces.{Binding}
use Rattle.xc_elements.specs.Steps.Reading.{IsKeptOf}
use Rattle.xc_elements.specs.Steps.Views.{item_view}
use Rattle.xc_elements.specs.declared.items.Item.{Item}
use Rattle.xc_elements.specs.declared.items.Item.TheVariants as items
use Rattle.xc_elements.specs.declared.nodes.Node.{Node}
use Rattle.xc_elements.proofs.CompletedLaws.{plain_declaration, plain_comment, plain_instruction}
use Rattle.xc_elements.proofs.KeptLaws.{kept_silent}
use Rattle.xc_elements.proofs.reader.Reader.read_item.Goals as goal

silent : (item : Item) (opens : List Kept) (scope : List Binding) (nodes : List Node) (r : Bool) (before : List Meaning) →
    (item ≡ items.Declaration) ⊎ ((item ≡ items.Comment) ⊎ (item ≡ items.Instruction)) → IsKeptOf opens scope nodes r before → IsKeptOf opens scope nodes false (item_view item ∷ before)
silent item opens scope nodes r before (inl e) k = subst (λ i. IsKeptOf opens scope nodes false (item_view i ∷ before)) (sym e) (kept_silent Declaration plain_declaration opens scope nodes r before refl k)
silent item opens scope nodes r before (inr (inl e)) k = subst (λ i. IsKeptOf opens scope nodes false (item_view i ∷ before)) (sym e) (kept_silent Comment plain_comment opens scope nodes r before refl k)
silent item opens scope nodes r before (inr (inr e)) k = subst (λ i. IsKeptOf opens scope nodes false (item_view i ∷ before)) (sym e) (kept_silent Instruction plain_instruction opens scope nodes r before refl k)

pub returns-in-Declaration-clause-reads : goal.returns-in-Declaration-clause-reads
returns-in-Declaration-clause-reads c = λ before read.
    let old = c.args.self.now in
    silent c.args.item old.opens old.scope old.nodes.items old.behind_return before c.in-Declaration.is read
