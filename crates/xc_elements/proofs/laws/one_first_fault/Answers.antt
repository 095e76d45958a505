use Rattle.std.proofs.Common.{◌≡◌, inl, inr, ℕ, ◌<◌, List, arith, sym}
use Rattle.xc_elements.specs.DocumentTrees.{IsFirstFault, byte_of, rank_of}
use Rattle.xc_elements.specs.declared.fault.TreeFault.{TreeFault}
use Rattle.xc_elements.proofs.FaultLaws.{same_fault}
use Rattle.xc_elements.proofs.laws.one_first_fault.Goals as goal

-- numbers of which neither is less
neither_less : (m n : ℕ) → (m < n → ⊥) → (n < m → ⊥) → m ≡ n
neither_less m n g h = grind arith

same_place : (bytes : List ℕ) (f g : TreeFault) → IsFirstFault bytes f → IsFirstFault bytes g → byte_of f ≡ byte_of g
same_place bytes f g a b = neither_less (byte_of f) (byte_of g) (λ less. b.first f a.stands (inl less)) (λ less. a.first g b.stands (inl less))

same_rank : (bytes : List ℕ) (f g : TreeFault) → IsFirstFault bytes f → IsFirstFault bytes g → rank_of f ≡ rank_of g
same_rank bytes f g a b =
    let e = same_place bytes f g a b in
    neither_less (rank_of f) (rank_of g) (λ less. b.first f a.stands (inr (e, less))) (λ less. a.first g b.stands (inr (sym e, less)))

pub returns : goal.returns
returns c = λ bytes one other a b. same_fault bytes one other (same_place bytes one other a b) (same_rank bytes one other a b) a.stands b.stands
