-- Each item is decided by its own characters.
use Rattle.std.proofs.Common.{ℕ, Bool, [], ◌∷◌, arith}
use Rattle.std.specs.Prelude.{codes}
use Rattle.xc_chars.specs.Characters.{is_name_char, is_space}
use Rattle.xc_elements.specs.Fronts.{More, Last}
use Rattle.xc_elements.specs.Items.{plain_name, qualified_name, referent, reference, equals_sign, quote, line_end, character_or_end_by, character_or_end, value_until, attribute, attribute_or_end, tag_rest, tag, end_tag, is_inside, may_declare, part, part_or_end, declaration, instruction_rest, instruction, comment, section, comment_or_section, markup, letter, item}
use Rattle.xc_elements.proofs.FrontLaws.{Peeks, Ends, peeks_from_frees, peeks_from_ends, frees_from_ends, peeks_then_peeks, peeks_then_ends, ends_then_frees, give_frees, give_peeks, refuse_frees, refuse_ends, refuse_peeks, give_some_frees, one_ends, past_ends, past_peeks, if_ends, if_peeks, if_frees, by_next_ends, by_next_peeks, exactly_frees, exactly_ends, run_peeks, up_to_ends}
use Rattle.xc_elements.proofs.SequenceLaws.{Turns, turns_from_ends, sequence_ends, GoesOn, give_goes_on, refuse_goes_on, then_goes_on, if_goes_on, past_goes_on, by_next_goes_on, last_freed, turns_from_one}

pub plain_name_peeks : Peeks plain_name
unfolding plain_name
plain_name_peeks = by_next_peeks (λ c. if_peeks _ (run_peeks is_name_char) refuse_peeks)

pub qualified_name_peeks : Peeks qualified_name
unfolding qualified_name
qualified_name_peeks = peeks_then_peeks plain_name_peeks (λ first. by_next_peeks (λ c. if_peeks _
    (past_peeks (peeks_then_peeks plain_name_peeks (λ local. give_peeks _)))
    (give_peeks _)))

pub reference_ends : Ends reference
unfolding reference
reference_ends = ends_then_frees (up_to_ends (codes ";") (omega arith)) (λ name. give_some_frees (referent name))

equals_peeks : Peeks equals_sign
unfolding equals_sign
equals_peeks = peeks_then_peeks (peeks_then_peeks (peeks_then_peeks (run_peeks is_space) (λ _. peeks_from_frees (exactly_frees _))) (λ _. run_peeks is_space)) (λ _. give_peeks tt)

quote_peeks : Peeks quote
unfolding quote
quote_peeks = peeks_then_peeks (peeks_from_ends one_ends) (λ c. if_peeks _ (give_peeks c) refuse_peeks)

line_end_peeks : Peeks line_end
unfolding line_end
line_end_peeks = by_next_peeks (λ c. if_peeks _ (past_peeks (give_peeks _)) (give_peeks _))

pub line_end_goes_on : GoesOn line_end
unfolding line_end
line_end_goes_on = by_next_goes_on (λ c. if_goes_on _ (past_goes_on (give_goes_on 32)) (give_goes_on 32))

character_or_end_by_peeks : (mark c : ℕ) → Peeks (character_or_end_by mark c)
character_or_end_by_peeks mark c =
    if_peeks _ (give_peeks (Last tt))
    (if_peeks _ (peeks_then_peeks (peeks_from_ends reference_ends) (λ r. give_peeks (More r)))
    (if_peeks _ line_end_peeks
    (if_peeks _ (give_peeks (More 32))
    (if_peeks _ (give_peeks (More c)) refuse_peeks))))

pub value_turns : (mark : ℕ) → Turns (character_or_end mark)
unfolding character_or_end
value_turns mark = turns_from_one (character_or_end_by mark) (character_or_end_by_peeks mark) (λ c. last_freed _ tt
    (if_goes_on _ (then_goes_on reference (λ r. give_goes_on r))
    (if_goes_on _ line_end_goes_on
    (if_goes_on _ (give_goes_on 32)
    (if_goes_on _ (give_goes_on c) refuse_goes_on)))))

pub value_until_ends : (mark : ℕ) → Ends (value_until mark)
unfolding value_until
value_until_ends mark = ends_then_frees (sequence_ends (character_or_end mark) (value_turns mark)) (λ x. give_frees x.0)

pub attribute_ends : Ends attribute
unfolding attribute
attribute_ends =
    peeks_then_ends qualified_name_peeks (λ name.
    peeks_then_ends equals_peeks (λ _.
    peeks_then_ends quote_peeks (λ mark.
    ends_then_frees (value_until_ends mark) (λ value. give_frees _))))

pub attribute_or_end_ends : Ends attribute_or_end
unfolding attribute_or_end
attribute_or_end_ends = peeks_then_ends (run_peeks is_space) (λ spaces. by_next_ends (λ c.
    if_ends _ (past_ends (give_frees _))
    (if_ends _ (past_ends (frees_from_ends (ends_then_frees (exactly_ends _ (omega arith)) (λ _. give_frees _))))
    (if_ends _ refuse_ends (ends_then_frees attribute_ends (λ a. give_frees _))))))

pub tag_rest_ends : Ends tag_rest
unfolding tag_rest
tag_rest_ends = sequence_ends _ (turns_from_ends attribute_or_end_ends)

tag_ends : Ends tag
unfolding tag
tag_ends = peeks_then_ends qualified_name_peeks (λ name. ends_then_frees tag_rest_ends (λ body. give_frees _))

end_tag_ends : Ends end_tag
unfolding end_tag
end_tag_ends = peeks_then_ends qualified_name_peeks (λ name. peeks_then_ends (run_peeks is_space) (λ _. ends_then_frees (exactly_ends _ (omega arith)) (λ _. give_frees _)))

part_ends : Ends part
unfolding part
part_ends =
    peeks_then_ends plain_name_peeks (λ name.
    peeks_then_ends equals_peeks (λ _.
    peeks_then_ends quote_peeks (λ mark.
    peeks_then_ends (run_peeks (is_inside mark)) (λ value.
    ends_then_frees (exactly_ends (mark ∷ []) (omega arith)) (λ _. if_frees (may_declare name value) (give_frees tt) refuse_frees)))))

pub part_or_end_ends : Ends part_or_end
unfolding part_or_end
part_or_end_ends = peeks_then_ends (run_peeks is_space) (λ spaces. by_next_ends (λ c.
    if_ends _ (past_ends (frees_from_ends (ends_then_frees (exactly_ends _ (omega arith)) (λ _. give_frees _))))
    (if_ends _ refuse_ends (ends_then_frees part_ends (λ _. give_frees _)))))

declaration_ends : Ends declaration
unfolding declaration
declaration_ends = ends_then_frees (sequence_ends _ (turns_from_ends part_or_end_ends)) (λ _. give_frees _)

instruction_rest_ends : Ends instruction_rest
unfolding instruction_rest
instruction_rest_ends = by_next_ends (λ c. if_ends _
    (ends_then_frees (up_to_ends _ (omega arith)) (λ _. give_frees _))
    (ends_then_frees (exactly_ends _ (omega arith)) (λ _. give_frees _)))

instruction_ends : (is_first : Bool) → Ends (instruction is_first)
unfolding instruction
instruction_ends is_first = peeks_then_ends plain_name_peeks (λ target.
    if_ends _ (if_ends _ declaration_ends refuse_ends) instruction_rest_ends)

comment_ends : Ends comment
unfolding comment
comment_ends = ends_then_frees (ends_then_frees (up_to_ends _ (omega arith)) (λ _. exactly_frees _)) (λ _. give_frees _)

section_ends : Ends section
unfolding section
section_ends = ends_then_frees (up_to_ends _ (omega arith)) (λ text. give_frees _)

comment_or_section_ends : Ends comment_or_section
unfolding comment_or_section
comment_or_section_ends = by_next_ends (λ c. if_ends _
    (ends_then_frees (exactly_ends _ (omega arith)) (λ _. frees_from_ends comment_ends))
    (ends_then_frees (exactly_ends _ (omega arith)) (λ _. frees_from_ends section_ends)))

markup_ends : (is_first : Bool) → Ends (markup is_first)
unfolding markup
markup_ends is_first = by_next_ends (λ c.
    if_ends _ (past_ends (frees_from_ends end_tag_ends))
    (if_ends _ (past_ends (frees_from_ends (instruction_ends is_first)))
    (if_ends _ (past_ends (frees_from_ends comment_or_section_ends)) tag_ends)))

letter_ends : Ends letter
unfolding letter
letter_ends = ends_then_frees one_ends (λ c. if_frees _ (give_frees _) refuse_frees)

pub item_ends : (is_first : Bool) → Ends (item is_first)
unfolding item
item_ends is_first = by_next_ends (λ c.
    if_ends _ (past_ends (frees_from_ends (markup_ends is_first)))
    (if_ends _ (past_ends (frees_from_ends (ends_then_frees reference_ends (λ r. give_frees _)))) letter_ends))
