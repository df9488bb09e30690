use Rattle.lowfat_regions.proofs.Division.{table_is}
use Rattle.lowfat_regions.proofs.shapes.shape_of.Goals as goal

pub returns : goal.returns
returns c = table_is _ c.args.region c.requires
