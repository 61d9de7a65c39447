use Rattle.window_floor.proofs.Inequality.{three-products}
use Rattle.window_floor.proofs.theorem.three_products.Goals as goal

pub returns : goal.returns
returns c = three-products
