-- Where what needs no charge is too little, every completion that meets the row has a charged variable on its dear side (step-one); else nothing is charged.
use Rattle.charging.specs.Rows.{of}
use Rattle.charging.proofs.ChargeLaws.{step-one}
use Rattle.charging.proofs.charges.charge_row.Goals as goal

pub returns : goal.returns
returns c =
    let a = c.args in
    let terms = c.terms_of-terms.ensures in
    let long = c.requires.0.long in
    step-one a.rows.now a.costs.now (of a.p) a.res.now _ a.h c.least-by.result c.requires.0 c.requires.2
    (rw terms at (c.covered.ensures c.if-covered.false)) c.least-by.ensures.0 (rw terms at c.least-by.ensures.1) (rw (terms, long) at c.pay-free.ensures)
