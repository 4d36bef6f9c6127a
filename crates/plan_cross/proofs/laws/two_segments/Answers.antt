-- Two segments without a common point keep their order throughout.
use Rattle.plan_plane.proofs.Crossing.Throughout.{throughout}
use Rattle.plan_cross.proofs.laws.two_segments.Goals as goal

pub returns : goal.returns
returns c s t hs ht apart z u v w (hz, hu, oz, ou, e) (hv, hw, ov, ow, f) below = throughout s t hs ht apart z u v w hz hu hv hw oz ou ov ow e f below
