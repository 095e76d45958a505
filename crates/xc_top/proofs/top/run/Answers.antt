use Rattle.std.proofs.Common.{◌≡◌, rules, inl, inr, subst, sym, ◌∙◌}
use Rattle.std.specs.Io.KnownBytes.{Appends}
use Rattle.xc_lines.specs.Lines.{usage_line}
use Rattle.xc_top.specs.Answers.{make_answer}
use Rattle.xc_top.specs.Steps.Named.{named}
use Rattle.xc_top.specs.Run.{AppendsPart, IsJudged}
use Rattle.xc_top.specs.Words.{texts}
use Rattle.xc_top.specs.declared.status.Status.TheVariants as status
use Rattle.xc_top.proofs.Accepted.{run_proven, none_proven, sound_written, sound_unread}
use Rattle.xc_top.proofs.Leaving.{over_failed, over_told}
use Rattle.xc_top.proofs.Ran.{usage_answer, usage_files, usage_unjudged, command_answer, command_held, fault_line, few_fetches, judged, lacking, read_fault_or_none, no_read_fault, no_write_fault, same_answer, read_or_write}
use Rattle.xc_top.proofs.Sizes.{sized_words}
use Rattle.xc_top.proofs.Stops.{if_any, if_then}
use Rattle.xc_top.proofs.top.run.Goals as goal

-- the number of nodes in accepted words is one that a sample may have
pub answer_command-requires : goal.answer_command-requires
answer_command-requires g c = sized_words (texts c.args.words.now) (named c.in-Some.command) c.in-Some.ensures

pub returns-in-Ok-clause-answer : goal.returns-in-Ok-clause-answer
returns-in-Ok-clause-answer g c =
    elim (read_fault_or_none c.in-Ok.answer.status) [
      | inl is_read ↦ if_any (g.S.Shelf.held c.args.shelf.now) (λ files answered.
          let wrote = c.write_text-in-Ok.ensures.written (no_write_fault _ answered) in
          absurd (no_read_fault _ answered (wrote.0 ∙ is_read)))
      | inr is_none ↦ if_then (g.S.Shelf.held c.args.shelf.now) (λ files told answered.
          let wrote = c.write_text-in-Ok.ensures.written (no_write_fault _ answered) in (
            c.in-Ok.answer.text,
            same_answer _ files _ c.in-Ok.answer wrote.0 (command_answer _ (named c.in-Some.command) files _ c.in-Some.ensures told),
            subst (λ t. Appends (g.O.Sink.written c.args.out.now) (g.O.Sink.written c.write_text-in-Ok.new.out) t) c.as_slice.ensures wrote.1,
          )) (over_told _ _ _ _ _ _ _ c.in-Ok.ensures.answer is_none).told
    ]

pub returns-in-Ok-clause-held : goal.returns-in-Ok-clause-held
returns-in-Ok-clause-held g c =
    elim (read_fault_or_none c.in-Ok.answer.status) [
      | inl is_read ↦ if_any (g.S.Shelf.held c.args.shelf.now) (λ files answered.
          let wrote = c.write_text-in-Ok.ensures.written (no_write_fault _ answered) in
          absurd (no_read_fault _ answered (wrote.0 ∙ is_read)))
      | inr is_none ↦ if_then (g.S.Shelf.held c.args.shelf.now) (λ files told answered.
          command_held _ (named c.in-Some.command) files c.in-Ok.answer c.in-Some.ensures told is_none)
          (over_told _ _ _ _ _ _ _ c.in-Ok.ensures.answer is_none).told
    ]

-- where the run ended by a read fault, it was the command's
pub returns-in-Ok-clause-read : goal.returns-in-Ok-clause-read
returns-in-Ok-clause-read g c = λ ended.
    let wrote = c.write_text-in-Ok.ensures.written (λ failed. absurd (read_or_write (sym ended ∙ failed))) in
    (over_failed _ _ _ _ _ _ _ c.in-Ok.ensures.answer (sym wrote.0 ∙ ended)).rose

pub returns-in-Ok-clause-read_line : goal.returns-in-Ok-clause-read_line
returns-in-Ok-clause-read_line g c = λ ended.
    let wrote = c.write_text-in-Ok.ensures.written (λ failed. absurd (read_or_write (sym ended ∙ failed))) in (
      c.in-Ok.answer.text,
      fault_line _ (named c.in-Some.command) _ c.in-Some.ensures (over_failed _ _ _ _ _ _ _ c.in-Ok.ensures.answer (sym wrote.0 ∙ ended)).line,
      subst (λ t. Appends (g.O.Sink.written c.args.out.now) (g.O.Sink.written c.write_text-in-Ok.new.out) t) c.as_slice.ensures wrote.1,
    )

pub returns-in-Ok-clause-read_steady : goal.returns-in-Ok-clause-read_steady
returns-in-Ok-clause-read_steady g c = λ steady.
    elim (read_fault_or_none c.in-Ok.answer.status) [
      | inl is_read ↦ if_then (g.S.Shelf.held c.args.shelf.now) (λ files missing ended.
          let wrote = c.write_text-in-Ok.ensures.written (λ failed. absurd (read_or_write (sym ended ∙ failed))) in (
            c.in-Ok.answer.text,
            same_answer _ files _ c.in-Ok.answer wrote.0 (command_answer _ (named c.in-Some.command) files _ c.in-Some.ensures (inl missing)),
            subst (λ t. Appends (g.O.Sink.written c.args.out.now) (g.O.Sink.written c.write_text-in-Ok.new.out) t) c.as_slice.ensures wrote.1,
          )) ((over_failed _ _ _ _ _ _ _ c.in-Ok.ensures.answer is_read).missing steady)
      | inr is_none ↦ if_any (g.S.Shelf.held c.args.shelf.now) (λ files ended.
          let wrote = c.write_text-in-Ok.ensures.written (λ failed. absurd (read_or_write (sym ended ∙ failed))) in
          absurd (is_none (sym wrote.0 ∙ ended)))
    ]

pub returns-in-Ok-clause-lacking : goal.returns-in-Ok-clause-lacking
returns-in-Ok-clause-lacking g c = λ steady.
    elim (read_fault_or_none c.in-Ok.answer.status) [
      | inl is_read ↦ if_then (g.S.Shelf.held c.args.shelf.now) (λ files missing ended.
          lacking _ (named c.in-Some.command) files c.in-Ok.answer c.in-Some.ensures is_read missing)
          ((over_failed _ _ _ _ _ _ _ c.in-Ok.ensures.answer is_read).missing steady)
      | inr is_none ↦ if_any (g.S.Shelf.held c.args.shelf.now) (λ files ended.
          let wrote = c.write_text-in-Ok.ensures.written (λ failed. absurd (read_or_write (sym ended ∙ failed))) in
          absurd (is_none (sym wrote.0 ∙ ended)))
    ]

-- an answer is the command's, and no read fault
pub returns-in-Ok-clause-fetched : goal.returns-in-Ok-clause-fetched
returns-in-Ok-clause-fetched g c = λ answered.
    let wrote = c.write_text-in-Ok.ensures.written (no_write_fault _ answered) in
    (over_told _ _ _ _ _ _ _ c.in-Ok.ensures.answer (λ is_read. no_read_fault _ answered (wrote.0 ∙ is_read))).worked

pub returns-in-Ok-clause-fetches : goal.returns-in-Ok-clause-fetches
returns-in-Ok-clause-fetches g c = few_fetches _ (named c.in-Some.command) _ _ c.in-Some.ensures c.answer_command.ensures.left.few

pub returns-in-Err-clause-fetches : goal.returns-in-Err-clause-fetches
returns-in-Err-clause-fetches g c = few_fetches _ (named c.in-Some.command) _ _ c.in-Some.ensures c.answer_command.ensures.left.few

pub returns-in-Ok-clause-settles : goal.returns-in-Ok-clause-settles
returns-in-Ok-clause-settles g c =
    elim (read_fault_or_none c.in-Ok.answer.status) [
      | inl is_read ↦ if_any (g.S.Shelf.held c.args.shelf.now) (λ files read write sound. absurd (read (over_failed _ _ _ _ _ _ _ c.in-Ok.ensures.answer is_read).rose))
      | inr is_none ↦ if_then (g.S.Shelf.held c.args.shelf.now) (λ files told read write sound.
          let wrote = c.write_text-in-Ok.ensures.written (λ failed. write (c.write_text-in-Ok.ensures.fault failed)) in
          let is = command_answer _ (named c.in-Some.command) files _ c.in-Some.ensures told in
          inr (subst (λ s. IsJudged s) (sym wrote.0) (judged c.in-Ok.answer.status c.in-Ok.ensures.ends is_none (sound.sound c.in-Ok.answer is))))
          (over_told _ _ _ _ _ _ _ c.in-Ok.ensures.answer is_none).told
    ]

pub returns-in_default-clause-held : goal.returns-in_default-clause-held
returns-in_default-clause-held g c =
    if_any (g.S.Shelf.held c.args.shelf.now) (λ files answered. usage_files _ files c.in_default.ensures)

pub returns-in_default-clause-settles : goal.returns-in_default-clause-settles
returns-in_default-clause-settles g c =
    if_any (g.S.Shelf.held c.args.shelf.now) (λ files read write sound. usage_unjudged _ files c.in_default.ensures sound)

pub returns-in_default-clause-part : goal.returns-in_default-clause-part
returns-in_default-clause-part g c =
    let is : c.as_bytes.result.now ≡ usage_line = search rules in
    if_any (g.S.Shelf.held c.args.shelf.now)
    (λ files failed. (
      make_answer status.Usage usage_line,
      inl (usage_answer _ files c.in_default.ensures),
      subst (λ t. AppendsPart (g.O.Sink.room c.args.out.now) (g.O.Sink.written c.args.out.now) (g.O.Sink.written c.write_text.new.out) t) is (c.write_text.ensures.part failed),
    ))

pub returns-in_default-clause-completes : goal.returns-in_default-clause-completes
returns-in_default-clause-completes g c =
    if_any (g.S.Shelf.held c.args.shelf.now)
    (λ files read write. inr (
      make_answer status.Usage usage_line,
      usage_answer _ files c.in_default.ensures,
      (c.write_text.ensures.written (λ failed. write (c.write_text.ensures.fault failed))).0,
    ))

pub returns-in-Ok-clause-part : goal.returns-in-Ok-clause-part
returns-in-Ok-clause-part g c =
    elim (read_fault_or_none c.in-Ok.answer.status) [
      | inl is_read ↦ if_any (g.S.Shelf.held c.args.shelf.now) (λ files failed. (
        c.in-Ok.answer,
        inr (fault_line _ (named c.in-Some.command) _ c.in-Some.ensures (over_failed _ _ _ _ _ _ _ c.in-Ok.ensures.answer is_read).line),
        subst (λ t. AppendsPart (g.O.Sink.room c.args.out.now) (g.O.Sink.written c.args.out.now) (g.O.Sink.written c.write_text-in-Ok.new.out) t) c.as_slice.ensures (c.write_text-in-Ok.ensures.part failed),
      ))
      | inr is_none ↦ if_then (g.S.Shelf.held c.args.shelf.now) (λ files told failed. (
        c.in-Ok.answer,
        inl (command_answer _ (named c.in-Some.command) files _ c.in-Some.ensures told),
        subst (λ t. AppendsPart (g.O.Sink.room c.args.out.now) (g.O.Sink.written c.args.out.now) (g.O.Sink.written c.write_text-in-Ok.new.out) t) c.as_slice.ensures (c.write_text-in-Ok.ensures.part failed),
      )) (over_told _ _ _ _ _ _ _ c.in-Ok.ensures.answer is_none).told
    ]

pub returns-in-Ok-clause-completes : goal.returns-in-Ok-clause-completes
returns-in-Ok-clause-completes g c =
    elim (read_fault_or_none c.in-Ok.answer.status) [
      | inl is_read ↦ if_any (g.S.Shelf.held c.args.shelf.now) (λ files read write. absurd (read (over_failed _ _ _ _ _ _ _ c.in-Ok.ensures.answer is_read).rose))
      | inr is_none ↦ if_then (g.S.Shelf.held c.args.shelf.now) (λ files told read write.
          inr (
            c.in-Ok.answer,
            command_answer _ (named c.in-Some.command) files _ c.in-Some.ensures told,
            (c.write_text-in-Ok.ensures.written (λ failed. write (c.write_text-in-Ok.ensures.fault failed))).0,
          )) (over_told _ _ _ _ _ _ _ c.in-Ok.ensures.answer is_none).told
    ]

-- where a run of `verify` is sound, its answer is, and that has accepted
pub returns-in-Ok-clause-proven : goal.returns-in-Ok-clause-proven
returns-in-Ok-clause-proven g c =
    elim (read_fault_or_none c.in-Ok.answer.status) [
      | inl is_read ↦ if_any (g.S.Shelf.held c.args.shelf.now) (λ files verify is sound.
          let wrote = c.write_text-in-Ok.ensures.written (λ failed. absurd (sound_written (sym sound ∙ failed))) in
          absurd (sound_unread (sym sound ∙ wrote.0 ∙ is_read)))
      | inr is_none ↦ if_then (g.S.Shelf.held c.args.shelf.now) (λ files told verify is sound.
          let wrote = c.write_text-in-Ok.ensures.written (λ failed. absurd (sound_written (sym sound ∙ failed))) in
          run_proven c.acceptance_proves.ensures _ (named c.in-Some.command) verify files c.in-Ok.answer c.in-Some.ensures is (sym wrote.0 ∙ sound) told)
          (over_told _ _ _ _ _ _ _ c.in-Ok.ensures.answer is_none).told
    ]

pub returns-in_default-clause-proven : goal.returns-in_default-clause-proven
returns-in_default-clause-proven g c =
    if_any (g.S.Shelf.held c.args.shelf.now) (λ files verify is sound. none_proven _ verify files c.in_default.ensures is)
