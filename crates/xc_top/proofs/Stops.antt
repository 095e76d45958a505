-- Steps from what one thing has to what another has.
use Rattle.std.proofs.Common.{Option, Some, None, IfSome}
use Rattle.xc_top.specs.Steps.Stops.{IfNamed}
use Rattle.xc_top.specs.declared.status.Answer.{Answer}
use Rattle.xc_top.specs.declared.status.Stop.{Stop}
use Rattle.xc_top.specs.declared.status.Stop.TheVariants as stop

pub if_any : {A : Type 0} {P : A → Type 0} (o : Option A) → ((a : A) → P a) → IfSome o P
if_any None f = tt
if_any (Some a) f = f a

pub if_then : {A : Type 0} {P Q : A → Type 0} (o : Option A) → ((a : A) → P a → Q a) → IfSome o P → IfSome o Q
if_then None f h = tt
if_then (Some a) f h = f a h

pub if_both : {A : Type 0} {P Q R : A → Type 0} (o : Option A) → ((a : A) → P a → Q a → R a) → IfSome o P → IfSome o Q → IfSome o R
if_both None f h k = tt
if_both (Some a) f h k = f a h k

pub if_three : {A : Type 0} {P Q R T : A → Type 0} (o : Option A) → ((a : A) → P a → Q a → R a → T a) → IfSome o P → IfSome o Q → IfSome o R → IfSome o T
if_three None f h k l = tt
if_three (Some a) f h k l = f a h k l

-- what a stop names has what follows from what it has
pub if_named : {P Q : Answer → Type 0} (s : Stop) → ((a : Answer) → P a → Q a) → IfNamed s P → IfNamed s Q
if_named stop.Memory f h = tt
if_named (stop.Named a) f h = f a h

pub if_named_both : {P Q R : Answer → Type 0} (s : Stop) → ((a : Answer) → P a → Q a → R a) → IfNamed s P → IfNamed s Q → IfNamed s R
if_named_both stop.Memory f h k = tt
if_named_both (stop.Named a) f h k = f a h k
