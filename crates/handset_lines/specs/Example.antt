-- The lines of document 01's case B just loaded: stage 1, countdown 30, no round, no request; and of the survey at its
-- end.
use Rattle.std.specs.Prelude.{◌≡◌, refl}
use Rattle.base_lists.specs.Text.{characters}
use Rattle.file_frames.specs.Frame.{hexes_of, sum_of, check_byte, line_of}
use Rattle.handset_lines.specs.declared.Status.{Status}
use Rattle.handset_lines.specs.Lines.{foreman_body, service_body}

abbrev begun : Status
begun = record { stage = 1; countdown = 30; rounds = 0; requests = 0 }

pub foreman-begun : line_of (foreman_body begun) ≡ characters "2001001EC1\n"
unfolding line_of hexes_of check_byte sum_of
foreman-begun = refl

pub service-begun : line_of (service_body begun) ≡ characters "2101001E00000000C0\n"
unfolding line_of hexes_of check_byte sum_of
service-begun = refl
