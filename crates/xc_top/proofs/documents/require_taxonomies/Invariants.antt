use Rattle.std.proofs.Common.{◌≡◌, drop}
use Rattle.xc_top.specs.Documents.{first_unread}
use Rattle.xc_top.proofs.documents.require_taxonomies.Given as goal

-- the first refusal of the documents that are left is the first of all
abbrev pub invariant-loop-document : goal.invariant-loop-document
invariant-loop-document l = first_unread (drop l.document-index l.documents) ≡ first_unread l.documents
