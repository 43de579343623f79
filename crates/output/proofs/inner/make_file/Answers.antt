use mathlib.Core.Path.{refl, sym}
use Rattle.output.proofs.FileLaws.{too_long_lem, too_short, made}
use Rattle.output.proofs.inner.make_file.Goals as goal

pub returns-then-need-gt-MAX_FILE : goal.returns-then-need-gt-MAX_FILE
returns-then-need-gt-MAX_FILE g c = λ file puts. too_long_lem (puts _ _ c.put.ensures) refl _ c.if-need-gt-MAX_FILE.true

pub returns-then-room-need : goal.returns-then-room-need
returns-then-room-need g c = λ file puts. too_short (puts _ _ c.put.ensures) refl _ c.if-need-gt-MAX_FILE.false c.if-room-need.true

pub returns : goal.returns
returns g c = λ file puts.
    let again = puts _ _ c.put-2.ensures in
    rw (c.room-1.given.1.1 (sym again.lent)) (made (puts _ _ c.put.ensures) refl c.if-need-gt-MAX_FILE.false c.if-room-need.false refl again)
