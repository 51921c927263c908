-- What the laws of the commands speak of.
use Rattle.std.specs.Prelude.{ℕ, List, [], ◌∷◌, ◌++◌}
use Rattle.std.specs.List.{flat_map}
use Rattle.frame_links.specs.PcapFrames.Making.{Frame}
use Rattle.captures.specs.CaptureCommands.Stations.{frame_line}

-- the lines of frames, in their order
abbrev pub lines_of_frames : List Frame → List ℕ
lines_of_frames frames = flat_map (λ f. frame_line f ++ (10 ∷ [])) frames
