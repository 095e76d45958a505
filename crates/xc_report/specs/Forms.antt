-- Texts of a fixed form.
use Rattle.std.specs.Prelude.{ℕ, ◌==◌, ◌&&◌, List, Bool, length, if◌then◌else◌}
use Rattle.std.specs.List.{list_all, zip}
use Rattle.std.specs.Char.{is_ascii_digit}

-- a byte fits a place of a form: `d` stands for a digit, and every other byte for itself
abbrev pub fits_place : ℕ → ℕ → Bool
fits_place place byte = if place == 100 then is_ascii_digit byte else byte == place

-- each byte fits its place
abbrev pub fits_places : List ℕ → List ℕ → Bool
fits_places form text = list_all (λ p. fits_place p.0 p.1) (zip form text)

-- a text of this form, as long as it
abbrev pub has_form : List ℕ → List ℕ → Bool
has_form form text = (length form == length text) && fits_places form text
