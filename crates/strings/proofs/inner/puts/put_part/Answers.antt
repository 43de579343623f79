use Rattle.strings.proofs.StoreLaws.{stores-text}
use Rattle.strings.proofs.inner.puts.put_part.Goals as goal

pub returns : goal.returns
returns c = stores-text c.store_text.ensures
