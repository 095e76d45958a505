-- What `sample` reads in place of files.
use Rattle.std.specs.Prelude.{ℕ, [], ◌∷◌, Some, None, codes, if◌then◌else◌}
use Rattle.std.specs.Str.{bytes_eq}
use Rattle.xc_calc.specs.declared.arc.ArcKind.TheVariants.{New}
use Rattle.xc_interval.specs.declared.mode.Mode.TheVariants.{Rounding}
use Rattle.xc_io.specs.Shelf.{Files}
use Rattle.xc_sample.specs.Samples.{linkbase_text, report_text, schema_text}
use Rattle.xc_top.specs.Words.{CheckWords, CommandWords, SumOf, CheckOf, VerifyOf, SampleOf}

-- the three texts of the sample of n nodes, under their names; nothing else is held
abbrev pub sample_files : ℕ → Files
sample_files n word =
    if bytes_eq word (codes "sample.json") then Some (report_text n)
    else if bytes_eq word (codes "sample.xsd") then Some (schema_text n)
    else if bytes_eq word (codes "sample-calc.xml") then Some (linkbase_text n)
    else None

-- what is asked of these: what `check rounding` asks
abbrev pub sample_check : CheckWords
sample_check = record { kind = New; mode = Rounding; report = codes "sample.json"; documents = codes "sample.xsd" ∷ codes "sample-calc.xml" ∷ [] }

-- the files in which a command reads: those that are held; and for `sample` its own texts, whatever is held
abbrev pub files_read : CommandWords → Files → Files
files_read (SumOf sum) files = files
files_read (CheckOf check) files = files
files_read (VerifyOf verify) files = files
files_read (SampleOf n) files = sample_files n
