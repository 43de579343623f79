-- A request as the code holds it, and the parts of a line that give it.
use Rattle.std.specs.Prelude.{ℕ, ◌+◌, List, [], get_or, length}
use Rattle.std.specs.Prelude.{Option, None, Some}
use Rattle.format.specs.Fields.{fields, field_number, unescaped}
use Rattle.format.specs.Requests.{Request, settings_field, request_with, name_span, lent_entry}
use Rattle.format.specs.declared.settings.Settings.{Settings}
use Rattle.requests.specs.declared.Asking.{Asking}
use Rattle.requests.specs.declared.Numbers.{Numbers}
use Rattle.requests.specs.declared.Lengths.{Lengths}

-- what a request asks for, the new cue's parts standing one after the other
unfoldable pub asking_for : Request → Asking
asking_for q = record { number = q.number; cue = lent_entry q; region = name_span q }

-- a field of a line
abbrev pub field_of : List ℕ → ℕ → List ℕ
field_of line k = get_or (fields line) k []

-- what the fields of a line give of them, where each holds one
abbrev pub numbers_is : Option ℕ → Option ℕ → Option ℕ → Option Numbers
numbers_is None start end = None
numbers_is (Some n) None end = None
numbers_is (Some n) (Some from) None = None
numbers_is (Some n) (Some from) (Some to) = Some (record { number = n; start = from; end = to })

abbrev pub lengths_is : Option (List ℕ) → Option (List ℕ) → Option Lengths
lengths_is None text = None
lengths_is (Some i) None = None
lengths_is (Some i) (Some t) = Some (record { id = length i; text = length t })

abbrev pub numbers_in : List (List ℕ) → Option Numbers
numbers_in fs = numbers_is (field_number (get_or fs 1 [])) (field_number (get_or fs 2 [])) (field_number (get_or fs 3 []))

abbrev pub lengths_in : List (List ℕ) → Option Lengths
lengths_in fs = lengths_is (unescaped (get_or fs 4 [])) (unescaped (get_or fs 6 []))

-- the name of the region that a field of settings asks for
unfoldable pub name_of : List ℕ → List ℕ
name_of f = (settings_field f).value.region.bytes

-- the request, its numbers being read
unfoldable pub rest_of : Numbers → List (List ℕ) → Option Request
rest_of n fs =
    request_with (Some n.number) (Some n.start) (Some n.end) (unescaped (get_or fs 4 [])) (settings_field (get_or fs 5 []))
    (unescaped (get_or fs 6 []))

-- what is asked for, with parts of these lengths
unfoldable pub asking_is : Numbers → Settings → Lengths → ℕ → Asking
asking_is n settings l name =
    record {
      number = n.number;
      cue =
          record {
            id = record { from = 0; to = l.id };
            start = n.start;
            end = n.end;
            text = record { from = l.id; to = l.id + l.text };
            settings = settings;
            region = None;
          };
      region = record { from = l.id + l.text; to = l.id + l.text + name };
    }
