use Rattle.data_url.proofs.parts.output.write_body.Goals as goal

pub returns : goal.returns
returns c = rw c.if-base64.false (c.write_percent_decoded.ensures c.args.left_over.now (c.requires c.if-base64.false))
