use Rattle.std.proofs.Common.{◌∙◌}
use Rattle.records.specs.Writing.{name_bytes, head_bytes, link_bytes, stamp_bytes, place_bytes}
use Rattle.records.proofs.WritesInOrder.{whole}
use Rattle.records.proofs.direntry.DirEntry.to_bytes.Goals as goal

pub returns : goal.returns
returns c =
    let e = c.args.self.now in
    whole c.put.new.bytes c.put_head.new.bytes c.put_links.new.bytes c.put_stamps.new.bytes c.put_place.new.bytes
    (name_bytes e.name) (head_bytes e) (link_bytes e) (stamp_bytes e) (place_bytes e)
    c.put_place.array_long (c.put.ensures.front ∙ c.name_field.ensures) c.put_head.ensures c.put_links.ensures c.put_stamps.ensures c.put_place.ensures
