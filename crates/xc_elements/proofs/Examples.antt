-- Small documents, cut by the definitions.
use Rattle.std.specs.Prelude.{◌≡◌, true, false, [], ◌∷◌, Some, None, codes, refl}
use Rattle.xc_chars.specs.Characters.{is_character, is_name_start, is_name_char}
use Rattle.xc_elements.specs.Fronts.{followed_by, give, refuse, one, by_next, exactly, run, up_to, sequence_within, sequence}
use Rattle.xc_elements.specs.Items.{Declaration, Empty, plain_name, qualified_name, character_from, referent, reference, equals_sign, quote, line_end, character_or_end, value_until, attribute, attribute_or_end, tag_rest, tag, part, part_or_end, declaration, instruction, markup, item}

attribute_with_references : item false (codes "<a x=\"&lt;&#65;\"/>b") ≡ Some (Empty (record { prefix = []; local = codes "a" }) (record { name = record { prefix = []; local = codes "x" }; value = codes "<A" } ∷ []), codes "b")
unfolding is_character is_name_start is_name_char followed_by give refuse one by_next exactly run up_to sequence_within sequence plain_name qualified_name character_from referent reference equals_sign quote line_end character_or_end value_until attribute attribute_or_end tag_rest tag markup item
attribute_with_references = refl

unknown_reference : item false (codes "&x;</a>") ≡ None
unfolding is_character is_name_start is_name_char followed_by give refuse one by_next exactly run up_to sequence_within sequence plain_name qualified_name character_from referent reference equals_sign quote line_end character_or_end value_until attribute attribute_or_end tag_rest tag markup item
unknown_reference = refl

first_declaration : item true (codes "<?xml version=\"1.0\" encoding='US-ASCII'?>") ≡ Some (Declaration, [])
unfolding is_character is_name_start is_name_char followed_by give refuse one by_next exactly run sequence_within sequence plain_name equals_sign quote part part_or_end declaration instruction markup item
first_declaration = refl

other_encoding : item true (codes "<?xml version=\"1.0\" encoding='ISO-8859-1'?>") ≡ None
unfolding is_character is_name_start is_name_char followed_by give refuse one by_next exactly run sequence_within sequence plain_name equals_sign quote part part_or_end declaration instruction markup item
other_encoding = refl
