use Rattle.flat_store.specs.Wholes.{fit}
use Rattle.flat_store.proofs.FlatStore.copy_record.Goals as goal

pub returns : goal.returns
returns c = let s = c.args.self.now in c.copy_out.ensures.copied (fit s.bytes.now s.count s.fits c.args.number c.requires)
