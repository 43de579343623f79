-- What a token makes of a region, as the code holds both. `proofs/ChangeLaws.antt` proves that this is what `format` says.
use Rattle.std.specs.Prelude.{◌||◌}
use Rattle.format.specs.Texts.{Part}
use Rattle.format.specs.Tokens.{Flagged, value_of}
use Rattle.format.specs.CueSettings.{span_is}
use Rattle.format.specs.RegionSettings.{RegionValues, region_after, id_after, over_region, region_change, region_is}
use Rattle.regions.specs.declared.RegionTaken.{RegionTaken}

-- one token
abbrev pub step_is : Part → RegionTaken → RegionTaken
step_is t s =
    let change = region_change t in
    record {
      region = record { id = id_after change (span_is (value_of t)) s.region.id; settings = region_after change s.region.settings };
      over = s.over || over_region change;
    }

abbrev pub taken_is : Flagged RegionValues → RegionTaken
taken_is t = record { region = region_is t.value; over = t.over }
