-- What is left of a text past its end: all digits.
use Rattle.file_frames.specs.FrameRests.{digits-end}

pub ruleset ended = (digits-end)
