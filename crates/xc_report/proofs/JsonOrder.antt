-- A JSON value that was read has the names of each object in order, so that none stands twice.
use Rattle.std.proofs.Common.{◌≡◌, ℕ, List, [], ◌∷◌, Bool, true, false, codes, Option, Some, None, Result, Ok, Err, option_map, option_and_then, if◌then◌else◌, refl, sym, ap, subst, ◌∙◌}
use Rattle.std.specs.Cmp.Lexicographic.{slice_cmp, nat_list_cmp_total}
use Rattle.std.specs.Ordering.{nat_cmp, ordering_reverse, match_ordering}
use Rattle.std.specs.declared.cmp.Ordering.{Ordering}
use Rattle.std.specs.declared.cmp.Ordering.TheVariants.{Less, Equal, Greater}
use Rattle.std.proofs.lemmas.Option.{none-some, same_Some, option_and_then_some}
use Rattle.json.specs.Json as json
use Rattle.json.specs.Lex.{tokens}
use Rattle.serde_json.specs.Data.{Data, null, boolean, number, string, array, object, Items, no_items, item, Members, no_members, member, put}
use Rattle.serde_json.specs.Find.{get, get_member, as_object}
use Rattle.serde_json.specs.Read.{of_json, of_items, of_members, number_of, max_depth, read}
use Rattle.xc_report.specs.Json.{json_of, member_list}
use Rattle.xc_report.specs.Opened.{Opened, or_none, members_or_none, first_wrong, opened_of, opened_unless, opened_data, opened}
use Rattle.xc_report.specs.declared.reports.Member.{Member}
use Rattle.xc_report.specs.declared.reports.ReportFault.{ReportFault}
use Rattle.xc_report.proofs.Told.{mapped}

-- a name is below the names of these members
abbrev pub IsBelow : List ℕ → Members → Type 0
IsBelow k no_members = Unit {0}
IsBelow k (member l d ms) = (slice_cmp nat_cmp k l ≡ Less) × IsBelow k ms

-- the names of each object ascend
abbrev mutual
  pub IsOrdered : Data → Type 0
  IsOrdered null = Unit {0}
  IsOrdered (boolean b) = Unit {0}
  IsOrdered (number n) = Unit {0}
  IsOrdered (string s) = Unit {0}
  IsOrdered (array ds) = AreOrdered ds
  IsOrdered (object ms) = HasOrder ms

  pub AreOrdered : Items → Type 0
  AreOrdered no_items = Unit {0}
  AreOrdered (item d ds) = IsOrdered d × AreOrdered ds

  pub HasOrder : Members → Type 0
  HasOrder no_members = Unit {0}
  HasOrder (member k d ms) = IsBelow k ms × IsOrdered d × HasOrder ms

-- ---- a member put in

below_all : (k l : List ℕ) (ms : Members) → slice_cmp nat_cmp k l ≡ Less → IsBelow l ms → IsBelow k ms
below_all k l no_members less all = tt
below_all k l (member m d ms) less all = (nat_list_cmp_total.trans k l m less all.0, below_all k l ms less all.1)

below_at : (k l m : List ℕ) (d e : Data) (ms : Members) → slice_cmp nat_cmp k l ≡ Less → IsBelow k (member m e ms) → IsBelow k (put l d ms)
    → (o : Ordering) → IsBelow k (match_ordering o (member l d (member m e ms)) (member m d ms) (member m e (put l d ms)))
below_at k l m d e ms less all rest Less = (less, all)
below_at k l m d e ms less all rest Equal = all
below_at k l m d e ms less all rest Greater = (all.0, rest)

below_put : (k l : List ℕ) (d : Data) (ms : Members) → slice_cmp nat_cmp k l ≡ Less → IsBelow k ms → IsBelow k (put l d ms)
below_put k l d no_members less all = (less, tt)
below_put k l d (member m e ms) less all = below_at k l m d e ms less all (below_put k l d ms less all.1) (slice_cmp nat_cmp l m)

put_at : (k l : List ℕ) (d e : Data) (ms : Members) → IsOrdered d → HasOrder (member l e ms) → HasOrder (put k d ms) → (o : Ordering) → slice_cmp nat_cmp k l ≡ o
    → HasOrder (match_ordering o (member k d (member l e ms)) (member l d ms) (member l e (put k d ms)))
put_at k l d e ms ordered has rest Less h = ((h, below_all k l ms h has.0), ordered, has)
put_at k l d e ms ordered has rest Equal h = (has.0, ordered, has.2)
put_at k l d e ms ordered has rest Greater h = (below_put l k d ms (nat_list_cmp_total.antisymm l k ∙ ap ordering_reverse h) has.0, has.1, rest)

put_ordered : (k : List ℕ) (d : Data) (ms : Members) → IsOrdered d → HasOrder ms → HasOrder (put k d ms)
put_ordered k d no_members ordered has = (tt, ordered, tt)
put_ordered k d (member l e ms) ordered has = put_at k l d e ms ordered has (put_ordered k d ms ordered has.2) (slice_cmp nat_cmp k l) refl

-- ---- what is read

mutual
  of_json_ordered : (j : json.Json) (d : Data) → of_json j ≡ Some d → IsOrdered d
  of_json_ordered json.null d e = subst IsOrdered (same_Some null d e) tt
  of_json_ordered (json.boolean b) d e = subst IsOrdered (same_Some (boolean b) d e) tt
  of_json_ordered (json.number s) d e = mapped number (number_of s) d e (λ n h is. subst IsOrdered is tt)
  of_json_ordered (json.string s) d e = subst IsOrdered (same_Some (string s) d e) tt
  of_json_ordered (json.array js) d e = mapped array (of_items js) d e (λ ds h is. subst IsOrdered is (of_items_ordered js ds h))
  of_json_ordered (json.object ms) d e = mapped object (of_members ms no_members) d e (λ out h is. subst IsOrdered is (of_members_ordered ms no_members out tt h))

  of_items_ordered : (js : json.Items) (ds : Items) → of_items js ≡ Some ds → AreOrdered ds
  of_items_ordered json.no_items ds e = subst AreOrdered (same_Some no_items ds e) tt
  of_items_ordered (json.item j js) ds e =
      option_and_then_some (λ d. option_map (item d) (of_items js)) (of_json j) ds e (λ d h g.
      mapped (item d) (of_items js) ds g (λ rest r is. subst AreOrdered is (of_json_ordered j d h, of_items_ordered js rest r)))

  of_members_ordered : (ms : json.Members) (found out : Members) → HasOrder found → of_members ms found ≡ Some out → HasOrder out
  of_members_ordered json.no_members found out has e = subst HasOrder (same_Some found out e) has
  of_members_ordered (json.member k j ms) found out has e =
      option_and_then_some (λ d. of_members ms (put k d found)) (of_json j) out e (λ d h g.
      of_members_ordered ms (put k d found) out (put_ordered k d found (of_json_ordered j d h) has) g)

from_read : (text : List ℕ) (d : Data) (b : Bool) → (if b then read text else None) ≡ Some d → IsOrdered d
from_read text d true e = option_and_then_some of_json (option_and_then (λ p. json.if_last p.0 p.1) (json.value max_depth (tokens text))) d e (λ j h is. of_json_ordered j d is)
from_read text d false e = absurd (none-some d e)

json_ordered : (bytes : List ℕ) (d : Data) → json_of bytes ≡ Some d → IsOrdered d
unfolding json_of
json_ordered bytes d e = from_read bytes d _ e

-- ---- what is found in it

found_ordered : (k l : List ℕ) (e : Data) (d : Data) (ms : Members) → IsOrdered d → (get_member k ms ≡ Some e → IsOrdered e) → (o : Ordering)
    → match_ordering o (get_member k ms) (Some d) (get_member k ms) ≡ Some e → IsOrdered e
found_ordered k l e d ms ordered rest Less h = rest h
found_ordered k l e d ms ordered rest Equal h = subst IsOrdered (same_Some d e h) ordered
found_ordered k l e d ms ordered rest Greater h = rest h

member_ordered : (k : List ℕ) (e : Data) (ms : Members) → HasOrder ms → get_member k ms ≡ Some e → IsOrdered e
member_ordered k e no_members has h = absurd (none-some e h)
member_ordered k e (member l d ms) has h = found_ordered k l e d ms has.1 (member_ordered k e ms has.2) (slice_cmp nat_cmp k l) h

pub get_ordered : (k : List ℕ) (d e : Data) → IsOrdered d → get k d ≡ Some e → IsOrdered e
get_ordered k null e ordered h = absurd (none-some e h)
get_ordered k (boolean b) e ordered h = absurd (none-some e h)
get_ordered k (number n) e ordered h = absurd (none-some e h)
get_ordered k (string s) e ordered h = absurd (none-some e h)
get_ordered k (array ds) e ordered h = absurd (none-some e h)
get_ordered k (object ms) e ordered h = member_ordered k e ms ordered h

object_ordered : (d : Data) → IsOrdered d → HasOrder (or_none (as_object d))
object_ordered null ordered = tt
object_ordered (boolean b) ordered = tt
object_ordered (number n) ordered = tt
object_ordered (string s) ordered = tt
object_ordered (array ds) ordered = tt
object_ordered (object ms) ordered = ordered

members_ordered : (o : Option Data) → ((d : Data) → o ≡ Some d → IsOrdered d) → HasOrder (members_or_none o)
members_ordered None each = tt
members_ordered (Some d) each = object_ordered d (each d refl)

-- ---- an opened report

abbrev IsOpenedAs : Opened → Result Opened ReportFault → Type 0
IsOpenedAs o (Ok p) = p ≡ o
IsOpenedAs o (Err f) = ⊥

from_unless : (report : Data) (o : Opened) → IsOrdered report → (w : Option Member) → opened_unless report w ≡ Ok o → HasOrder o.facts
from_unless report o ordered None e =
    let is : opened_of report ≡ o = sym (subst (λ r. IsOpenedAs (opened_of report) r) e refl) in
    subst (λ (p : Opened). HasOrder p.facts) is (members_ordered (get (codes "facts") report) (λ d h. get_ordered (codes "facts") report d ordered h))
from_unless report o ordered (Some wrong) e = absurd (subst (λ r. IsOpenedAs o r) (sym e) refl)

from_data : (bytes : List ℕ) (o : Opened) (d : Option Data) → json_of bytes ≡ d → opened_data d ≡ Ok o → HasOrder o.facts
from_data bytes o None h e = absurd (subst (λ r. IsOpenedAs o r) (sym e) refl)
from_data bytes o (Some report) h e = from_unless report o (json_ordered bytes report h) (first_wrong report (get (codes "documentInfo") report)) e

-- the members of `facts` of an opened report have order, and so have the objects inside them
pub opened_ordered : (bytes : List ℕ) (o : Opened) → opened bytes ≡ Ok o → HasOrder o.facts
opened_ordered bytes o e = from_data bytes o (json_of bytes) refl e

-- ---- as a list

-- a name is below the names of all these
abbrev pub IsBelowAll : List ℕ → List (List ℕ × Data) → Type 0
IsBelowAll k [] = Unit {0}
IsBelowAll k (m ∷ ms) = (slice_cmp nat_cmp k m.0 ≡ Less) × IsBelowAll k ms

-- the names ascend
abbrev pub NamesAscend : List (List ℕ × Data) → Type 0
NamesAscend [] = Unit {0}
NamesAscend (m ∷ ms) = IsBelowAll m.0 ms × NamesAscend ms

-- each value has order
abbrev pub EachOrdered : List (List ℕ × Data) → Type 0
EachOrdered [] = Unit {0}
EachOrdered (m ∷ ms) = IsOrdered m.1 × EachOrdered ms

below_list : (k : List ℕ) (ms : Members) → IsBelow k ms → IsBelowAll k (member_list ms)
below_list k no_members all = tt
below_list k (member l d ms) all = (all.0, below_list k ms all.1)

pub names_ascend : (ms : Members) → HasOrder ms → NamesAscend (member_list ms)
names_ascend no_members has = tt
names_ascend (member l d ms) has = (below_list l ms has.0, names_ascend ms has.2)

pub each_ordered : (ms : Members) → HasOrder ms → EachOrdered (member_list ms)
each_ordered no_members has = tt
each_ordered (member l d ms) has = (has.1, each_ordered ms has.2)
