use Rattle.fetch_stream.proofs.Scanned.{listed_readied, scan_readied}
use Rattle.fetch_stream.proofs.source.Source.readied.Goals as goal

pub returns-in_ok-readied-in-Scanned-clause-source : goal.returns-in_ok-readied-in-Scanned-clause-source
returns-in_ok-readied-in-Scanned-clause-source g c =
    let after = c.in_ok-readied-in-Scanned in
    rw c.in-Scanned.is (scan_readied c.in-Scanned.scan after.field-0 (rw c.in-Scanned.is at c.requires.source) after.ensures.readied)

pub returns-in-Listed-clause-source : goal.returns-in-Listed-clause-source
returns-in-Listed-clause-source g c =
    rw c.in-Listed.is (listed_readied c.in-Listed.schema (rw c.in-Listed.is at c.requires.source))
