use Rattle.std.proofs.Common.{◌≡◌, length, arith}
use Rattle.hash_join.proofs.Sieving.{products_tell}
use Rattle.hash_join.proofs.search.Search.push_products.Goals as goal

pub push_numbers-requires-clause-look : goal.push_numbers-requires-clause-look
push_numbers-requires-clause-look c =
    let search = c.args.self.now in
    let counted : c.len.result ≡ length search.rights.now.places.items = omega (arith, c.len.ensures, search.rights.now.places.ok) in
    products_tell search c.requires.whole c.args.product c.requires.parted c.as_slice.result.now c.len.result c.as_slice.ensures.value counted
