use mathlib.Core.Path.{sym}
use Rattle.laws.proofs.NotNames.{not_named}
use Rattle.nodes.proofs.NamedLaws.{none_named}
use Rattle.nodes.proofs.inner.tokens.kind_named.Goals as goal

-- no kind's name, by what each way to the last arm has tested
pub returns-in_default-4 : goal.returns-in_default-4
returns-in_default-4 c = sym (search (not_named, none_named))

pub returns-in_default-5 : goal.returns-in_default-5
returns-in_default-5 c = sym (search (not_named, none_named))

pub returns-in_default-8 : goal.returns-in_default-8
returns-in_default-8 c = sym (search (not_named, none_named))

pub returns-in_default-12 : goal.returns-in_default-12
returns-in_default-12 c = sym (search (not_named, none_named))

pub returns-in_default-13 : goal.returns-in_default-13
returns-in_default-13 c = sym (search (not_named, none_named))
