use Rattle.xc_top.specs.Words.{words_of}
use Rattle.xc_top.proofs.OneAnswer.{Below, one_answer}
use Rattle.xc_top.proofs.RenamedSystems.{Certifies}
use Rattle.xc_top.proofs.laws.answers_are_one.Goals as goal

pub returns : goal.returns
returns c = λ words files one other h k.
    let certifies : Certifies = record {
      range = c.one_range.ensures;
      ends = c.one_list_of_ends.ensures;
      system = c.system_is_one.ensures;
      certificate = c.one_certificate.ensures;
      either = c.text_or_fault.ensures;
      fault = c.one_fault.ensures;
      judgement = c.one_judgement.ensures;
    } in
    let below : Below = record {
      tell = c.numbers_tell_names.ensures;
      stand = c.names_stand_at_numbers.ensures;
      networks = c.networks_are_one.ensures;
      stated = c.numbers_are_free.ensures.stated;
      facts = c.numbers_are_free.ensures.facts;
      judges = record { verdict = c.one_verdict.ensures; kind = c.one_kind.ensures; certifies = certifies };
    } in
    one_answer below c.documents_are_one.ensures (words_of words) files one other h k
