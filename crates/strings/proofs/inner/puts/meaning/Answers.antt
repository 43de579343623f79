use Rattle.laws.proofs.NotNames.{not_named}
use Rattle.strings.proofs.TextLaws.{escaped_none}
use Rattle.strings.proofs.inner.puts.meaning.Goals as goal
use Rattle.strings.proofs.inner.puts.meaning.Goals.{in_default-via-then-held-lt3, in_default-via-else-held-lt3+then-held-lt4+in-38+in-108+in_default-1, in_default-via-else-held-lt3+then-held-lt4+in-38+in-103+in_default-1, in_default-via-else-held-lt3+then-held-lt4+in-38+in_default-1, in_default-via-else-held-lt3+then-held-lt4+in_default-1, in_default-via-else-held-lt3+else-held-lt4+then-held-lt5+in-38+in-97+in-109+in_default-1, in_default-via-else-held-lt3+else-held-lt4+then-held-lt5+in-38+in-97+in_default-1, in_default-via-else-held-lt3+else-held-lt4+then-held-lt5+in-38+in-108+in-114+in_default-1, in_default-via-else-held-lt3+else-held-lt4+then-held-lt5+in-38+in-108+in_default-1, in_default-via-else-held-lt3+else-held-lt4+then-held-lt5+in-38+in-114+in-108+in_default-1, in_default-via-else-held-lt3+else-held-lt4+then-held-lt5+in-38+in-114+in_default-1, in_default-via-else-held-lt3+else-held-lt4+then-held-lt5+in-38+in_default-1, in_default-via-else-held-lt3+else-held-lt4+then-held-lt5+in_default-1, in_default-via-else-held-lt3+else-held-lt4+else-held-lt5+then-held-lt6+in-38+in-110+in-98+in-115+in_default-1, in_default-via-else-held-lt3+else-held-lt4+else-held-lt5+then-held-lt6+in-38+in-110+in-98+in_default-1, in_default-via-else-held-lt3+else-held-lt4+else-held-lt5+then-held-lt6+in-38+in-110+in_default-1, in_default-via-else-held-lt3+else-held-lt4+else-held-lt5+then-held-lt6+in-38+in_default-1, in_default-via-else-held-lt3+else-held-lt4+else-held-lt5+then-held-lt6+in_default-1, in_default-via-else-held-lt3+else-held-lt4+else-held-lt5+else-held-lt6}

-- no escape's bytes are held, by what each way to the last arm has tested
pub returns-in_default : goal.returns-in_default
returns-in_default c =
    elim c.in_default.branch [
      | in_default-via-then-held-lt3 w ↦ search (not_named, escaped_none)
      | in_default-via-else-held-lt3+then-held-lt4+in-38+in-108+in_default-1 w ↦ search (not_named, escaped_none)
      | in_default-via-else-held-lt3+then-held-lt4+in-38+in-103+in_default-1 w ↦ search (not_named, escaped_none)
      | in_default-via-else-held-lt3+then-held-lt4+in-38+in_default-1 w ↦ search (not_named, escaped_none)
      | in_default-via-else-held-lt3+then-held-lt4+in_default-1 w ↦ search (not_named, escaped_none)
      | in_default-via-else-held-lt3+else-held-lt4+then-held-lt5+in-38+in-97+in-109+in_default-1 w ↦ search (not_named, escaped_none)
      | in_default-via-else-held-lt3+else-held-lt4+then-held-lt5+in-38+in-97+in_default-1 w ↦ search (not_named, escaped_none)
      | in_default-via-else-held-lt3+else-held-lt4+then-held-lt5+in-38+in-108+in-114+in_default-1 w ↦ search (not_named, escaped_none)
      | in_default-via-else-held-lt3+else-held-lt4+then-held-lt5+in-38+in-108+in_default-1 w ↦ search (not_named, escaped_none)
      | in_default-via-else-held-lt3+else-held-lt4+then-held-lt5+in-38+in-114+in-108+in_default-1 w ↦ search (not_named, escaped_none)
      | in_default-via-else-held-lt3+else-held-lt4+then-held-lt5+in-38+in-114+in_default-1 w ↦ search (not_named, escaped_none)
      | in_default-via-else-held-lt3+else-held-lt4+then-held-lt5+in-38+in_default-1 w ↦ search (not_named, escaped_none)
      | in_default-via-else-held-lt3+else-held-lt4+then-held-lt5+in_default-1 w ↦ search (not_named, escaped_none)
      | in_default-via-else-held-lt3+else-held-lt4+else-held-lt5+then-held-lt6+in-38+in-110+in-98+in-115+in_default-1 w ↦ search (not_named, escaped_none)
      | in_default-via-else-held-lt3+else-held-lt4+else-held-lt5+then-held-lt6+in-38+in-110+in-98+in_default-1 w ↦ search (not_named, escaped_none)
      | in_default-via-else-held-lt3+else-held-lt4+else-held-lt5+then-held-lt6+in-38+in-110+in_default-1 w ↦ search (not_named, escaped_none)
      | in_default-via-else-held-lt3+else-held-lt4+else-held-lt5+then-held-lt6+in-38+in_default-1 w ↦ search (not_named, escaped_none)
      | in_default-via-else-held-lt3+else-held-lt4+else-held-lt5+then-held-lt6+in_default-1 w ↦ search (not_named, escaped_none)
      | in_default-via-else-held-lt3+else-held-lt4+else-held-lt5+else-held-lt6 w ↦ search (not_named, escaped_none)
    ]
