-- An answer that refuses a document, or that none was read, is no judgement.
use Rattle.std.proofs.Common.{◌≡◌, ◌∙◌, ℕ, List, [], ◌∷◌, length, take, decimal, Bool, true, false, Option, Some, None, nat_lt, codes, cond, option_map, option_and_then, inl, inr, sym, ap}
use Rattle.std.specs.Option.{option_or}
use Rattle.std.specs.Prelude.{slice_get}
use Rattle.xc_calc.specs.Linkbases.{is_linkbase}
use Rattle.xc_calc.specs.declared.arc.ArcKind.{ArcKind}
use Rattle.xc_concepts.specs.Schemas.{is_schema}
use Rattle.xc_concepts.specs.declared.schema.Schema.{Schema}
use Rattle.xc_elements.specs.Codes as tree
use Rattle.xc_io.specs.Shelf.{Files}
use Rattle.xc_lists.specs.Places.{first_given, places}
use Rattle.xc_top.specs.Answers.{refused, refusal, schema_refusal, link_refusal}
use Rattle.xc_top.specs.Documents.{limit, unfetched, unfetched_of, content_refusal, document_refusal}
use Rattle.xc_top.specs.Run.{IsJudged}
use Rattle.xc_top.specs.Taxonomies.{Part, schema_broken, schema_broken_at, link_broken, schemas_in, linkbases_in, IsTaxonomyRefusal}
use Rattle.xc_top.specs.declared.documents.Content.{Content}
use Rattle.xc_top.specs.declared.documents.Content.TheVariants.{Elements, Broken}
use Rattle.xc_top.specs.declared.documents.Document.{Document}
use Rattle.xc_top.specs.declared.status.Answer.{Answer}
use Rattle.xc_top.specs.declared.status.Status.TheVariants.{Sound, Findings, Refused, TooWide, ReadFault}

abbrev pub IsUnjudged : Answer → Type 0
IsUnjudged answer = ¬ IsJudged answer.status

the_one : (a b : Answer) → Some a ≡ Some b → a ≡ b
the_one a b e = cc

pub refused_unjudged : (a : Answer) → a.status ≡ Refused → IsUnjudged a
refused_unjudged a is (inl e) = let wrong : Refused ≡ Sound = sym is ∙ e in cc
refused_unjudged a is (inr (inl e)) = let wrong : Refused ≡ Findings = sym is ∙ e in cc
refused_unjudged a is (inr (inr e)) = let wrong : Refused ≡ TooWide = sym is ∙ e in cc

unread_unjudged : (a : Answer) → a.status ≡ ReadFault → IsUnjudged a
unread_unjudged a is (inl e) = let wrong : ReadFault ≡ Sound = sym is ∙ e in cc
unread_unjudged a is (inr (inl e)) = let wrong : ReadFault ≡ Findings = sym is ∙ e in cc
unread_unjudged a is (inr (inr e)) = let wrong : ReadFault ≡ TooWide = sym is ∙ e in cc

pub refusal_unjudged : (word : List ℕ) (code place : Option (List ℕ)) (a : Answer) → refusal word code place ≡ Some a → IsUnjudged a
refusal_unjudged word None place a e = absurd (cc)
refusal_unjudged word (Some code) None a e = refused_unjudged a (ap (λ x. x.status) (sym (the_one _ a e)))
refusal_unjudged word (Some code) (Some place) a e = refused_unjudged a (ap (λ x. x.status) (sym (the_one _ a e)))

-- what is answered first has what either has
first_or_later : (Q : Type 0) (o later : Option Answer) (a : Answer) → (o ≡ Some a → Q) → (later ≡ Some a → Q) → option_or o later ≡ Some a → Q
first_or_later Q None later a first then e = then e
first_or_later Q (Some b) later a first then e = first e

-- the first that is answered of a list has what each has
pub given_has : {K : Type 0} (P : Answer → Type 0) (given : K → Option Answer) → ((k : K) (a : Answer) → given k ≡ Some a → P a) → (ks : List K) (a : Answer) → first_given given ks ≡ Some a → P a
given_has P given each [] a e = absurd (cc)
given_has P given each (k ∷ ks) a e = first_or_later (P a) (given k) (first_given given ks) a (each k a) (given_has P given each ks a) e

pub unfetched_unjudged : (files : Files) (word : List ℕ) (a : Answer) → unfetched files word ≡ Some a → IsUnjudged a
unfetched_unjudged files word a e = by (files word) e
  where
    long : (b : Bool) → cond b (Some (refused word (codes "xc:tooLong"))) None ≡ Some a → IsUnjudged a
    long true e = refused_unjudged a (ap (λ x. x.status) (sym (the_one _ a e)))
    long false e = absurd (cc)

    by : (held : Option (List ℕ)) → unfetched_of word held ≡ Some a → IsUnjudged a
    by None e = unread_unjudged a (ap (λ x. x.status) (sym (the_one _ a e)))
    by (Some bytes) e = long (nat_lt limit (length bytes)) e

document_unjudged : (document : Document) (a : Answer) → document_refusal document ≡ Some a → IsUnjudged a
document_unjudged document a e = by document.content e
  where
    word : List ℕ
    word = document.word

    root : (schema linkbase : Bool) → cond schema None (cond linkbase None (Some (refused word (codes "xc:notTaxonomy")))) ≡ Some a → IsUnjudged a
    root true linkbase e = absurd (cc)
    root false true e = absurd (cc)
    root false false e = refused_unjudged a (ap (λ x. x.status) (sym (the_one _ a e)))

    by : (content : Content) → content_refusal word content ≡ Some a → IsUnjudged a
    by (Elements nodes) e = root (is_schema nodes) (is_linkbase nodes) e
    by (Broken fault) e = refusal_unjudged word (tree.code_of fault) (option_map decimal (tree.place_of fault)) a e

schema_unjudged : (earlier : List Schema) (part : Part) (a : Answer) → schema_broken earlier part ≡ Some a → IsUnjudged a
schema_unjudged earlier part a e = by _ e
  where
    by : (o : Option _) → option_and_then (schema_refusal part.word) o ≡ Some a → IsUnjudged a
    by None e = absurd (cc)
    by (Some fault) e = refusal_unjudged part.word _ _ a e

schema_unjudged_at : (parts : List Part) (schemas : List Schema) (k : ℕ) (a : Answer) → schema_broken_at parts schemas k ≡ Some a → IsUnjudged a
schema_unjudged_at parts schemas k a e = by (slice_get parts k) e
  where
    by : (o : Option Part) → option_and_then (schema_broken (take k schemas)) o ≡ Some a → IsUnjudged a
    by None e = absurd (cc)
    by (Some part) e = schema_unjudged (take k schemas) part a e

link_unjudged : (kind : ArcKind) (schemas : List Schema) (part : Part) (a : Answer) → link_broken kind schemas part ≡ Some a → IsUnjudged a
link_unjudged kind schemas part a e = by _ e
  where
    by : (o : Option _) → option_and_then (link_refusal part.word) o ≡ Some a → IsUnjudged a
    by None e = absurd (cc)
    by (Some fault) e = refusal_unjudged part.word _ _ a e

pub taxonomy_unjudged : (kind : ArcKind) (documents : List Document) (a : Answer) → IsTaxonomyRefusal kind documents a → IsUnjudged a
taxonomy_unjudged kind documents a (inl e) = given_has IsUnjudged document_refusal document_unjudged documents a e
taxonomy_unjudged kind documents a (inr (inl h)) =
    let parts = schemas_in documents in
    given_has IsUnjudged (schema_broken_at parts h.schemas) (schema_unjudged_at parts h.schemas) (places parts) a h.broken
taxonomy_unjudged kind documents a (inr (inr h)) = given_has IsUnjudged (link_broken kind h.schemas) (link_unjudged kind h.schemas) (linkbases_in documents) a h.broken
