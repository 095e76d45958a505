use Rattle.std.proofs.Common.{refl, inr, true}
use Rattle.xc_pivot.proofs.Margins.{margin_some, apart_of, margins_of}
use Rattle.xc_pivot.proofs.quotients.quotient_of.Goals as goal

pub div-requires : goal.div-requires
div-requires c = margin_some c.mixed_parts-first.result.tiny c.mixed_parts-second.result.tiny c.in-Ok.margins.tiny (c.if-not-both_exceed.ensures.0 refl).1 (c.in-Ok.ensures.gives true)

pub returns-in-Ok-div-clause-is : goal.returns-in-Ok-div-clause-is
returns-in-Ok-div-clause-is c = record {
  apart = apart_of c.args.high c.args.limit.now c.args.value.now c.mixed_parts-first.result c.mixed_parts-second.result c.mixed_parts-first.ensures c.mixed_parts-second.ensures (c.if-not-both_exceed.ensures.0 refl);
  margins = c.in-Ok.margins;
  are = margins_of c.args.high c.args.limit.now c.args.value.now c.mixed_parts-first.result c.mixed_parts-second.result c.mixed_parts-first.ensures c.mixed_parts-second.ensures c.in-Ok.margins c.in-Ok.ensures.gives;
  gives = c.in-Ok-div.ensures.exact;
}

pub returns-in-Err-div-clause-passes : goal.returns-in-Err-div-clause-passes
returns-in-Err-div-clause-passes c = record {
  apart = apart_of c.args.high c.args.limit.now c.args.value.now c.mixed_parts-first.result c.mixed_parts-second.result c.mixed_parts-first.ensures c.mixed_parts-second.ensures (c.if-not-both_exceed.ensures.0 refl);
  passes = inr (record {
    margins = c.in-Ok.margins;
    are = margins_of c.args.high c.args.limit.now c.args.value.now c.mixed_parts-first.result c.mixed_parts-second.result c.mixed_parts-first.ensures c.mixed_parts-second.ensures c.in-Ok.margins c.in-Ok.ensures.gives;
    passes = (c.in-Err-div.ensures.operands, c.in-Err-div.ensures.passes);
  });
}
