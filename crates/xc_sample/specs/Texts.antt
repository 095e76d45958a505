-- The three texts of a sample together.
use Rattle.std.specs.Prelude.{◌≡◌, ◌≤◌, ℕ, length}
use Rattle.xc_sample.specs.Samples.{linkbase_text, report_text, schema_text}
use Rattle.xc_sample.specs.declared.types.Sample.{Sample}

-- these are the texts of the sample of n
pub record IsSampleOf (n : ℕ) (sample : Sample) : Type 0 where
  pub schema : sample.schema.items ≡ schema_text n
  pub linkbase : sample.linkbase.items ≡ linkbase_text n
  pub report : sample.report.items ≡ report_text n

-- no text is longer than 64 MiB, the greatest size of a file
pub record AreShort (sample : Sample) : Type 0 where
  pub schema : length sample.schema.items ≤ 67108864
  pub linkbase : length sample.linkbase.items ≤ 67108864
  pub report : length sample.report.items ≤ 67108864
