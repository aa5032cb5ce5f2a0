-- `edge::read` is `read_of`.
use Rattle.edge.proofs.Readings.{by_crossed, by_blank, by_rising, by_beyond}
use Rattle.edge.proofs.read.Goals as goal

pub returns-then-not-past-blank : goal.returns-then-not-past-blank
returns-then-not-past-blank c =
    by_crossed _ _ _ _ c.a_of-a.ensures c.b_of.ensures _ c.product_at-product.ensures c.is_nan-blank.ensures.value c.if-not-past-blank.true

pub returns-then-not-past : goal.returns-then-not-past
returns-then-not-past c =
    by_blank _ _ _ _ c.a_of-a.ensures c.b_of.ensures _ c.product_at-product.ensures c.is_nan-blank.ensures.value c.if-not-past-blank.false c.if-not-past.true

pub returns-then-rising : goal.returns-then-rising
returns-then-rising c =
    by_rising _ _ _ _ c.a_of-a.ensures c.b_of.ensures _ c.product_at-product.ensures c.is_nan-blank.ensures.value c.if-rising.true

pub returns : goal.returns
returns c =
    by_beyond _ _ _ _ c.a_of-a.ensures c.b_of.ensures _ c.product_at-product.ensures c.is_nan-blank.ensures.value c.if-not-past.false c.if-rising.false
