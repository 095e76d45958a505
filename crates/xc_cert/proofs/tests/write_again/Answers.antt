use Rattle.xc_cert.specs.Certificates.{HasFewValues, IsCertificate}
use Rattle.xc_system.specs.declared.types.Certificate.{Certificate}
use Rattle.xc_system.specs.declared.types.Certificate.TheVariants.{Feasible, Infeasible}
use Rattle.xc_cert.proofs.tests.write_again.Goals as goal

few_values : (c : Certificate) → IsCertificate c → HasFewValues c
few_values (Feasible values) sound = sound
few_values (Infeasible r) sound = tt

pub write_certificate-requires : goal.write_certificate-requires
write_certificate-requires c = few_values c.in_ok-certificate.certificate c.in_ok-certificate.ensures.sound
